use Rattle.std.proofs.Common.{ap, sym, ◌∙◌, eq-eqb, Err}
use Rattle.std.proofs.lemmas.Bool.{eqb-true, true≢false}
use Rattle.compact_form.specs.Routines.{whole_sound, more_behind, unreadable}
use Rattle.compact_form.proofs.body.RoutineBodyPoolable.decode.Goals as goal

pub returns-then-is_empty-clause-found : goal.returns-then-is_empty-clause-found
returns-then-is_empty-clause-found c = whole_sound c.args.b.now c.in-Ok.routine c.routine.new.self.rest.now c.in-Ok.ensures.found
    (eqb-true _ _ (sym c.is_empty.ensures ∙ c.if-is_empty.true))

pub returns-else-is_empty-clause-absent : goal.returns-else-is_empty-clause-absent
returns-else-is_empty-clause-absent c = λ v h e. more_behind c.args.b.now c.in-Ok.routine c.routine.new.self.rest.now c.in-Ok.ensures.found
    (λ none. true≢false (sym (c.is_empty.ensures ∙ eq-eqb _ _ none) ∙ c.if-is_empty.false)) v.routine h e

pub returns-in-Err-Unreadable-clause-absent : goal.returns-in-Err-Unreadable-clause-absent
returns-in-Err-Unreadable-clause-absent c = λ v h e. unreadable c.args.b.now (c.in-Err-Unreadable.ensures.none (ap Err c.in-Err-Unreadable.field-0-is))
    v.routine h e
