use Rattle.il_run.proofs.Numbers.{NumberedTo}
use Rattle.il_run.proofs.numbering.Numbering.new.Given as goal

abbrev pub invariant-loop-block : goal.invariant-loop-block
invariant-loop-block l = NumberedTo l.blocks l.block-index l.starts.items l.numbers.items l.next
