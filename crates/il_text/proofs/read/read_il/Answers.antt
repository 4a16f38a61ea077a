use Rattle.std.proofs.Common.{ap, ◌∙◌}
use Rattle.std.proofs.lemmas.Result.{err_from_is_err_and}
use Rattle.il_text.specs.declared.partial.Place.{Place}
use Rattle.il_text.specs.Partials.{lines_of}
use Rattle.il_text.specs.Texts.{lines_text}
use Rattle.il_text.proofs.Complete.{partial_of, whole_partial, order_memory, check_memory, same_program, is_typed}
use Rattle.il_text.proofs.Programs.{is_program, done_room}
use Rattle.il_text.proofs.ProgramText.{program_text}
use Rattle.il_text.proofs.read.read_il.Goals as goal

pub returns-clause-valid : goal.returns-clause-valid
returns-clause-valid c =
    let f = c.in_ok-objects.ensures.fit in
    is_program c.in_ok-objects.field-0.objects c.in_ok-objects.field-0.routines c.in-Ok.program f.objects f.routines
    (done_room c.in_ok-objects.field-0 f c.in_ok-objects.ensures.done)
    (rw (← c.as_slice.ensures, ← c.as_slice-2.ensures) c.in_ok-in_order.ensures.ok) c.in-Ok.ensures c.in_ok-check.ensures.ok.valid c.in_ok-check.ensures.ok.main

pub returns-clause-text : goal.returns-clause-text
returns-clause-text c =
    c.in_ok-objects.ensures.text ∙ ap (λ (p : Place). lines_text (lines_of p c.in_ok-objects.field-0.objects c.in_ok-objects.field-0.routines))
    c.in_ok-objects.ensures.done
    ∙ program_text c.in_ok-objects.field-0.objects c.in_ok-objects.field-0.routines c.in-Ok.program c.in-Ok.ensures

pub returns-in_err-objects-clause-memory : goal.returns-in_err-objects-clause-memory
returns-in_err-objects-clause-memory c = λ p h.
    let r = err_from_is_err_and c.from_residual.result c.from_residual.ensures.1 in
    rw (r.1, r.2) (c.in_err-objects.ensures.memory (partial_of p) (whole_partial c.args.b.now p h))

pub returns-in_err-in_order-clause-memory : goal.returns-in_err-in_order-clause-memory
returns-in_err-in_order-clause-memory c = λ p h.
    let r = err_from_is_err_and c.from_residual-in_err-in_order.result c.from_residual-in_err-in_order.ensures.1 in
    rw (r.1, r.2) (order_memory p c.in_ok-objects.field-0 c.in_err-in_order.field-0.0 h.valid
    (c.in_ok-objects.ensures.each (partial_of p) (whole_partial c.args.b.now p h))
    (rw (← c.as_slice.ensures, ← c.as_slice-2.ensures) c.in_err-in_order.ensures.fault))

pub returns-in_err-check-clause-memory : goal.returns-in_err-check-clause-memory
returns-in_err-check-clause-memory c = λ p h.
    let r = err_from_is_err_and c.from_residual-in_err-check.result c.from_residual-in_err-check.ensures.1 in
    rw (r.1, r.2) (check_memory p c.in-Ok.program c.in_ok-objects.field-0 c.in_err-check.field-0.0 h.valid
    (c.in_ok-objects.ensures.each (partial_of p) (whole_partial c.args.b.now p h)) c.in-Ok.ensures c.in_err-check.ensures.fault)

pub returns-clause-each : goal.returns-clause-each
returns-clause-each c = λ p h. same_program p c.in-Ok.program c.in_ok-objects.field-0 h.valid
    (c.in_ok-objects.ensures.each (partial_of p) (whole_partial c.args.b.now p h)) c.in-Ok.ensures

pub returns-clause-typed : goal.returns-clause-typed
returns-clause-typed c = let f = c.in_ok-objects.ensures.fit in is_typed c.in_ok-objects.field-0.objects c.in_ok-objects.field-0.routines c.in-Ok.program
    f.objects f.routines c.in-Ok.ensures
