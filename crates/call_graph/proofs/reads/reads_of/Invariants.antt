use Rattle.std.specs.Prelude.{◌||◌, replicate, false}
use Rattle.il_core.specs.declared.instr.Block.{Block}
use Rattle.il_core.specs.Operands.{end_reads}
use Rattle.il_laws.specs.Live.{any_reads}
use Rattle.const_prop.proofs.Marked.{Marking}
use Rattle.call_graph.proofs.reads.reads_of.Given as goal

abbrev pub invariant-loop-block : goal.invariant-loop-block
invariant-loop-block l = Marking Block (λ b x. any_reads b.instrs x || end_reads b.end x) l.blocks (replicate l.params false) l.block-index l.marks.items
