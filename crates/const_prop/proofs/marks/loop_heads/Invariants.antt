use Rattle.std.specs.Prelude.{length, replicate, false}
use Rattle.il_core.specs.declared.instr.Block.{Block}
use Rattle.const_prop.specs.Tables.{is_head}
use Rattle.const_prop.proofs.Marked.{Marking}
use Rattle.const_prop.proofs.marks.loop_heads.Given as goal

abbrev pub invariant-loop-block : goal.invariant-loop-block
invariant-loop-block l = Marking Block (λ b. is_head b.end) l.blocks (replicate (length l.blocks) false) l.block-index l.heads.items
