use Rattle.std.proofs.Common.{length, take, ◌-◌, ◌≤◌}
use Rattle.std.specs.Io.KnownBytes.{Appends}
use Rattle.outside.proofs.sink.write_all.Given as goal

abbrev pub invariant-loop-at : goal.invariant-loop-at
invariant-loop-at g l = record {
  within : l.at ≤ length l.b;
  taken : Appends (g.O.Sink.taken l.fn.o) (g.O.Sink.taken l.o) (take l.at l.b);
  later : g.O.Sink.faults l.fn.o ≤ g.O.Sink.faults l.o;
}

abbrev pub decreases-loop-at : goal.decreases-loop-at
decreases-loop-at g l = length l.b - l.at
