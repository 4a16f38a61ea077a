use Rattle.il_core.specs.declared.instr.Instr.{Instr}
use Rattle.il_core.specs.Operands.{reads}
use Rattle.const_prop.proofs.Marked.{Marking}
use Rattle.call_graph.proofs.reads.mark_reads.Given as goal

abbrev pub invariant-loop-instr : goal.invariant-loop-instr
invariant-loop-instr l = Marking Instr reads l.instrs l.fn.marks l.instr-index l.marks
