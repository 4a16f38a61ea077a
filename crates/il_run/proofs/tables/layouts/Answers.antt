use Rattle.std.proofs.Common.{ap, sym, subst, ◌∙◌, ◌≡◌, List, ℕ}
use Rattle.std.proofs.lemmas.List.{get_or_read}
use Rattle.il_core.specs.Routine.{RoutineParts}
use Rattle.il_run.specs.Machine.{routine_of}
use Rattle.il_run.specs.Words.{AreStarts}
use Rattle.il_run.proofs.Tabling.{layouts_more}
use Rattle.il_run.proofs.tables.layouts.Goals as goal

pub loop-routine-preserved : goal.loop-routine-preserved
loop-routine-preserved c =
    let read : c.routine-item.result ≡ routine_of c.args.routines.now c.loop-routine.routine-index = get_or_read c.args.routines.now
    c.loop-routine.routine-index c.routine-item.result c.loop-routine-test.true c.routine-item.is _ in
    layouts_more c.args.routines.now c.loop-routine.routine-index c.loop-routine.arrays.items c.push.new.self.items c.in_ok-new.field-0 c.loop-routine.invariant
    c.in_ok-push.ensures.items
    (c.in_ok-new.ensures.sizes ∙ c.in_ok-sizes.ensures.items ∙ c.as_slice.ensures ∙ ap (λ (r : RoutineParts). r.arrays) (c.routine.view_is ∙ read))
    (subst (λ (xs : List ℕ). AreStarts xs c.in_ok-new.field-0.starts.items) (sym c.in_ok-new.ensures.sizes) c.in_ok-new.ensures.starts)
