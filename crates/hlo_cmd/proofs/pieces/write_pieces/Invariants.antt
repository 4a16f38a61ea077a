use Rattle.std.proofs.Common.{◌≤◌, take}
use Rattle.std.specs.Prelude.{flat_map}
use Rattle.std.specs.Io.KnownBytes.{Appends}
use Rattle.hlo_cmd.proofs.pieces.write_pieces.Given as goal

abbrev pub invariant-loop-piece : goal.invariant-loop-piece
invariant-loop-piece g l = record {
  taken : Appends (g.O.Sink.taken l.fn.o) (g.O.Sink.taken l.o) (flat_map (λ p. p.now) (take l.piece-index l.pieces));
  later : g.O.Sink.faults l.fn.o ≤ g.O.Sink.faults l.o;
}
