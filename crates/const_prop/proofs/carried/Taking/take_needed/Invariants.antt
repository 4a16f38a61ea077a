use Rattle.std.proofs.Common.{length}
use Rattle.const_prop.proofs.Noting.{Noting}
use Rattle.const_prop.proofs.carried.Taking.take_needed.Given as goal

abbrev pub invariant-loop-instr : goal.invariant-loop-instr
invariant-loop-instr l = Noting (length l.fn.self.takers.items) l.block.instrs l.fn.self l.self l.instr-index
