use Rattle.std.specs.Prelude.{replicate, false}
use Rattle.il_core.specs.declared.instr.Block.{Block}
use Rattle.il_laws.specs.Facts.{any_writes}
use Rattle.const_prop.proofs.Marked.{Marking}
use Rattle.const_prop.proofs.marks.written.Given as goal

abbrev pub invariant-loop-block : goal.invariant-loop-block
invariant-loop-block l = Marking Block (λ b. any_writes b.instrs) l.blocks (replicate l.regs false) l.block-index l.marks.items
