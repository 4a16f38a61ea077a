use Rattle.std.proofs.Common.{◌≡◌, ◌≤◌, true, false}
use Rattle.std.specs.Io.KnownBytes.{IsAtEnd, prepend_known}
use Rattle.il_run.specs.Machine.{IsSound, IsTabled, fuel}
use Rattle.std.specs.Prelude.{IfSome}
use Rattle.il_run.specs.Counts.{IsCounter, StillCounts}
use Rattle.il_run.specs.Run.{IfTold}
use Rattle.il_run.proofs.Placing.{PlacedIfTold}
use Rattle.il_run.specs.Streams.{AsksSo, IsAhead, ahead}
use Rattle.il_run.proofs.Running.{Holding, Using}
use Rattle.il_run.proofs.rounds.Ready.drive.Given as goal

abbrev pub invariant-rounds : goal.invariant-rounds
invariant-rounds g l = record {
  tabled : IsTabled l.p l.self.tables;
  sound : IsSound l.p l.self.tables l.self.machine;
  fits : IsAhead l.self.given;
  at_end : l.self.given.ended ≡ true → IsAtEnd (g.I.Source.left l.input);
  told : IfTold (g.I.Source.left l.fn.input) (Holding l.p l.self.tables l.turns l.self.machine l.counter
      (prepend_known (ahead l.self.given) (g.I.Source.left l.input)) (g.O.Sink.taken l.fn.out) (g.O.Sink.taken l.out) l.self.pending.bytes.items);
  using_so : l.self.given.ended ≡ false
      → IfTold (g.I.Source.left l.fn.input) (Using l.p l.self.tables l.turns l.self.machine (prepend_known (ahead l.self.given) (g.I.Source.left l.input)));
  placed : IfTold (g.I.Source.left l.fn.input) (PlacedIfTold l.p l.turns (g.I.Source.asks l.fn.input) (g.I.Source.asks l.input) (g.I.Source.left l.input));
  counter : IfSome l.counter (λ c. IsCounter l.p c);
  still : StillCounts l.p l.fn.counter l.counter;
  asks : AsksSo (g.I.Source.asks l.fn.input) (g.I.Source.asks l.input) l.self.given.ended;
  input_later : g.I.Source.faults l.fn.input ≤ g.I.Source.faults l.input;
  output_later : g.O.Sink.faults l.fn.out ≤ g.O.Sink.faults l.out;
}

abbrev pub decreases-rounds : goal.decreases-rounds
decreases-rounds g l = fuel l.p l.self.machine
