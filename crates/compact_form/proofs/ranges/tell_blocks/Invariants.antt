use Rattle.std.proofs.Common.{take}
use Rattle.std.specs.List.{AllByRecursion}
use Rattle.il_core.specs.Ranges.{IsBlockOfWords}
use Rattle.compact_form.proofs.ranges.tell_blocks.Given as goal

abbrev pub invariant-loop-block : goal.invariant-loop-block
invariant-loop-block l = AllByRecursion IsBlockOfWords (take l.block-index l.blocks)
