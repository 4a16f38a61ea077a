use Rattle.one_owner.specs.Alone.{Works, idle}
use Rattle.one_owner.specs.Going.{Keeps, KeepsWritten}
use Rattle.one_owner.specs.Rounds.{rounds_left}
use Rattle.one_owner.proofs.room.make_room.Given as goal

abbrev pub invariant-room : goal.invariant-room
invariant-room g l = record {
  works : Works l.loader (idle l.fn.loader.core);
  keeps : Keeps g.D.Disk.faults l.fn.loader l.loader;
  written : KeepsWritten l.fn.loader l.loader;
}

abbrev pub decreases-room : goal.decreases-room
decreases-room g l = rounds_left l.loader.core
