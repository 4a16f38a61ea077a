use Rattle.il_core.specs.declared.instr.Instr.{Instr}
use Rattle.il_core.specs.Operands.{writes}
use Rattle.const_prop.proofs.Marked.{Marking}
use Rattle.const_prop.proofs.marks.mark_written.Given as goal

abbrev pub invariant-loop-instr : goal.invariant-loop-instr
invariant-loop-instr l = Marking Instr writes l.instrs l.fn.marks l.instr-index l.marks
