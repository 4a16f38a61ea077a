use Rattle.std.proofs.Common.{suc, take, drop, sym, ◌∙◌, ap, ◌∷◌, ◌++◌}
use Rattle.std.proofs.Math.Seq.{drop-cons}
use Rattle.std.proofs.lemmas.List.{take-append-drop}
use Rattle.il_core.specs.Routine.{RoutineParts}
use Rattle.il_text.proofs.check.first_flaw.Goals as goal

pub returns-in-Some-clause-first : goal.returns-in-Some-clause-first
returns-in-Some-clause-first c = record {
  before = take c.loop-routine.routine-index c.args.routines.now;
  routine = c.routine-item.result;
  behind = drop (suc c.loop-routine.routine-index) c.args.routines.now;
  parts = sym (take-append-drop c.loop-routine.routine-index c.args.routines.now)
      ∙ ap (λ l. take c.loop-routine.routine-index c.args.routines.now ++ l)
      (drop-cons c.args.routines.now c.loop-routine.routine-index c.routine-item.result c.loop-routine-test.true ∙ ap
      (λ (y : RoutineParts). y ∷ drop (suc c.loop-routine.routine-index) c.args.routines.now) (sym c.routine-item.is));
  valid = c.loop-routine.invariant.valid;
  flaw = sym c.in-Some.is ∙ c.validate.ensures.first;
  line = c.loop-routine.invariant.line;
}
