use Rattle.std.proofs.Common.{length}
use Rattle.clone_groups.proofs.Noting.{Noting}
use Rattle.clone_groups.proofs.places.note.Given as goal

abbrev pub invariant-loop-routine : goal.invariant-loop-routine
invariant-loop-routine l = Noting l.routines l.left (length l.fn.places) l.places

abbrev pub decreases-loop-routine : goal.decreases-loop-routine
decreases-loop-routine l = length l.left
