use Rattle.clone_groups.specs.Moves.{callee_in}
use Rattle.clone_groups.proofs.InPlace.{Changing}
use Rattle.clone_groups.proofs.Moving.{blocks_change}
use Rattle.clone_groups.proofs.retargeting.retarget_blocks.Given as goal

abbrev pub invariant-loop-block : goal.invariant-loop-block
invariant-loop-block l = Changing (blocks_change (callee_in l.table)) 0 l.fn.blocks l.block-index l.next l.blocks
