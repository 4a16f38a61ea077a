use Rattle.std.proofs.Common.{◌≤◌, ◌++◌, take}
use Rattle.std.specs.Prelude.{decimal, flat_map}
use Rattle.std.specs.Io.KnownBytes.{Appends}
use Rattle.hlo_cmd.proofs.pieces.write_counts.Given as goal

abbrev pub invariant-loop-count : goal.invariant-loop-count
invariant-loop-count g l = record {
  taken : Appends (g.O.Sink.taken l.fn.o) (g.O.Sink.taken l.o) (flat_map (λ c. c.0.now ++ decimal c.1) (take l.count-index l.counts));
  later : g.O.Sink.faults l.fn.o ≤ g.O.Sink.faults l.o;
}
