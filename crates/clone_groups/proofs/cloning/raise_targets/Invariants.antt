use Rattle.clone_groups.proofs.Cloned.{raised_change}
use Rattle.clone_groups.proofs.InPlace.{Changing}
use Rattle.clone_groups.proofs.cloning.raise_targets.Given as goal

abbrev pub invariant-loop-block : goal.invariant-loop-block
invariant-loop-block l = Changing raised_change 0 l.fn.blocks l.block-index 0 l.blocks
