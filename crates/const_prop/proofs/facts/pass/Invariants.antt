use Rattle.std.proofs.Common.{length}
use Rattle.const_prop.proofs.Through.{Passing}
use Rattle.const_prop.proofs.facts.pass.Given as goal

abbrev pub invariant-loop-instr : goal.invariant-loop-instr
invariant-loop-instr l = Passing (length l.fn.table) l.instrs l.fn.table l.instr-index l.table
