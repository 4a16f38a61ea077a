use Rattle.std.proofs.Common.{take}
use Rattle.std.specs.List.{AllByRecursion}
use Rattle.il_core.specs.Ranges.{AreWords, numbers_of}
use Rattle.compact_form.proofs.ranges.tell_instrs.Given as goal

abbrev pub invariant-loop-instr : goal.invariant-loop-instr
invariant-loop-instr l = AllByRecursion (λ i. AreWords (numbers_of i)) (take l.instr-index l.instrs)
