use Rattle.std.proofs.Common.{length}
use Rattle.const_prop.proofs.Through.{Changing}
use Rattle.const_prop.proofs.facts.propagate_instrs.Given as goal

abbrev pub invariant-loop-instr : goal.invariant-loop-instr
invariant-loop-instr l = Changing (length l.fn.table) l.fn.instrs l.fn.table l.instr-index l.table l.instrs
