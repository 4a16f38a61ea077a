use Rattle.std.proofs.Common.{◌≡◌, ◌≤◌, ◌+◌, ◌-◌, length}
use Rattle.std.specs.Prelude.{IsTrue}
use Rattle.repository.proofs.Ranges.{HasRead}
use Rattle.repository.proofs.places.read_range.Given as goal

abbrev pub invariant-loop-at : goal.invariant-loop-at
invariant-loop-at g l = record {
  within : l.at ≤ length l.b;
  later : g.D.Disk.faults l.fn.d ≤ g.D.Disk.faults l.d;
  reach : g.D.Disk.reach l.d ≡ g.D.Disk.reach l.fn.d;
  places : IsTrue (g.D.Disk.honest l.fn.d) → l.place + length l.b ≤ g.D.Disk.reach l.fn.d
      → HasRead (g.D.Disk.bytes l.fn.d) (g.D.Disk.bytes l.d) (g.D.Disk.honest l.d) l.place l.at l.b;
}

abbrev pub decreases-loop-at : goal.decreases-loop-at
decreases-loop-at g l = length l.b - l.at
