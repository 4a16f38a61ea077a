use Rattle.std.proofs.Common.{◌≡◌, [], length}
use Rattle.cleanup.proofs.Thinning.{ThinnedFrom}
use Rattle.cleanup.proofs.dead.thin_blocks.Given as goal

abbrev pub invariant-loop-b : goal.invariant-loop-b
invariant-loop-b l = record {
  thinned : ThinnedFrom l.fn.blocks (length l.fn.set) l.b l.rows l.blocks;
  room : l.room.items ≡ [];
}

abbrev pub decreases-loop-b : goal.decreases-loop-b
decreases-loop-b l = l.b
