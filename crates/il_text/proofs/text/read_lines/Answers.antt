use Rattle.std.proofs.Common.{sym, ◌∙◌, ap}
use Rattle.std.proofs.lemmas.Result.{err_from_is_err_and}
use Rattle.il_text.specs.declared.partial.Partial.{Partial}
use Rattle.il_text.proofs.Ahead.{only_memory, ends, ahead_goes_on}
use Rattle.il_text.proofs.NextLines.{bad_next, no_more_lines, not_nothing, text_goes_on, number_goes_on}
use Rattle.il_text.proofs.text.read_lines.Goals.{else-is_empty-via-then-is_empty+else-is_done, else-is_empty-via-else-is_empty}
use Rattle.il_text.proofs.text.read_lines.Goals as goal

pub returns-in_err-partial-clause-fault : goal.returns-in_err-partial-clause-fault
returns-in_err-partial-clause-fault c =
    let p = err_from_is_err_and c.from_residual.result c.from_residual.ensures.1 in
    rw (p.1, p.2) (bad_next c.loop-bytes.partial c.args.b.now c.loop-bytes.rest.now c.in-Some.bytes.now c.in-Some.behind.now c.loop-bytes.number
    c.in_err-partial.field-0.0 c.loop-bytes.invariant.fit c.loop-bytes.invariant.text c.loop-bytes.invariant.number c.in-Some.ensures.found
    c.in-Some.ensures.line c.in_err-partial.ensures.fault)

pub returns-else-is_empty-clause-fault : goal.returns-else-is_empty-clause-fault
returns-else-is_empty-clause-fault c = no_more_lines c.loop-bytes.partial c.args.b.now c.loop-bytes.rest.now c.loop-bytes.number c.loop-bytes.invariant.fit
    c.loop-bytes.invariant.text c.loop-bytes.invariant.number c.in_default.ensures.none
    (elim c.else-is_empty.branch [
      | else-is_empty-via-then-is_empty+else-is_done w ↦ λ nothing done. w.is_done.ensures.no w.if-is_done.false done
      | else-is_empty-via-else-is_empty w ↦ λ nothing done. not_nothing c.loop-bytes.rest.now (sym c.is_empty.ensures ∙ w.if-is_empty.false) nothing
    ])

pub returns-in_err-partial-clause-memory : goal.returns-in_err-partial-clause-memory
returns-in_err-partial-clause-memory c = λ f whole.
    let p = err_from_is_err_and c.from_residual.result c.from_residual.ensures.1 in
    rw (p.1, p.2) (only_memory f c.loop-bytes.partial c.loop-bytes.rest.now c.in-Some.bytes.now c.in-Some.behind.now c.loop-bytes.number
    c.in_err-partial.field-0.0
    whole.fit c.loop-bytes.invariant.fit (c.loop-bytes.invariant.ahead f whole) c.in-Some.ensures.found c.in-Some.ensures.line c.in_err-partial.ensures.fault)

pub returns-then-is_done-clause-each : goal.returns-then-is_done-clause-each
returns-then-is_done-clause-each c = λ f whole. (ends f c.loop-bytes.partial c.loop-bytes.rest.now whole.fit c.loop-bytes.invariant.fit
    (c.loop-bytes.invariant.ahead f whole) c.in_default.ensures.none).1

pub returns-else-is_empty-clause-memory : goal.returns-else-is_empty-clause-memory
returns-else-is_empty-clause-memory c = λ f whole.
    let e = ends f c.loop-bytes.partial c.loop-bytes.rest.now whole.fit c.loop-bytes.invariant.fit (c.loop-bytes.invariant.ahead f whole)
    c.in_default.ensures.none in
    absurd (elim c.else-is_empty.branch [
      | else-is_empty-via-then-is_empty+else-is_done w ↦ w.is_done.ensures.no w.if-is_done.false (ap (λ (g : Partial). g.place) e.1 ∙ whole.done)
      | else-is_empty-via-else-is_empty w ↦ not_nothing c.loop-bytes.rest.now (sym c.is_empty.ensures ∙ w.if-is_empty.false) e.0
    ])

pub loop-bytes-preserved : goal.loop-bytes-preserved
loop-bytes-preserved c = record {
  fit = c.in_ok-partial.ensures.next.fit;
  text = text_goes_on c.loop-bytes.partial c.in_ok-partial.partial c.args.b.now c.loop-bytes.rest.now c.in-Some.bytes.now c.in-Some.behind.now
      c.in_ok-partial.ensures.next c.loop-bytes.invariant.text c.in-Some.ensures.found;
  number = number_goes_on c.loop-bytes.partial c.in_ok-partial.partial c.in-Some.bytes.now c.loop-bytes.number c.saturating_add-number.result
      c.in_ok-partial.ensures.next c.loop-bytes.invariant.number c.saturating_add-number.ensures;
  ahead = ahead_goes_on c.args.b.now c.loop-bytes.partial c.in_ok-partial.partial c.loop-bytes.rest.now c.in-Some.bytes.now c.in-Some.behind.now
      c.loop-bytes.invariant.ahead c.in-Some.ensures.found c.in-Some.ensures.line c.in_ok-partial.ensures.each;
}
