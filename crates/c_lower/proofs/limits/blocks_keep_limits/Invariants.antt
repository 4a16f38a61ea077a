use Rattle.std.proofs.Common.{drop}
use Rattle.std.specs.Prelude.{◌↔◌}
use Rattle.std.specs.List.{AllByRecursion}
use Rattle.il_core.specs.Limits.{IsBlock}
use Rattle.c_lower.proofs.limits.blocks_keep_limits.Given as goal

abbrev pub invariant-loop-block : goal.invariant-loop-block
invariant-loop-block l = AllByRecursion IsBlock (drop l.block-index l.blocks) ↔ AllByRecursion IsBlock l.blocks
