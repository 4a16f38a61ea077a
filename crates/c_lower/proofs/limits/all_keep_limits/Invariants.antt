use Rattle.std.proofs.Common.{drop}
use Rattle.std.specs.Prelude.{◌↔◌}
use Rattle.std.specs.List.{AllByRecursion}
use Rattle.il_core.specs.Limits.{IsInstr}
use Rattle.c_lower.proofs.limits.all_keep_limits.Given as goal

abbrev pub invariant-loop-instr : goal.invariant-loop-instr
invariant-loop-instr l = AllByRecursion IsInstr (drop l.instr-index l.instrs) ↔ AllByRecursion IsInstr l.instrs
