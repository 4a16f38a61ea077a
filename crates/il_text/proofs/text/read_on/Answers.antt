use Rattle.std.proofs.Common.{◌≡◌, Some, refl, sym, ◌∙◌}
use Rattle.il_text.proofs.Ahead.{each_step}
use Rattle.il_text.proofs.NextLines.{no_words, no_step, one_step}
use Rattle.il_text.proofs.text.read_on.Goals as goal

pub returns-in_default-line-clause-fault : goal.returns-in_default-line-clause-fault
returns-in_default-line-clause-fault c = (refl, no_words c.args.partial c.args.bytes.now (λ l k is. c.in_default-line.not-Some l (c.in-Ok.ensures.each l k is)))

pub returns-in-Ok-Some-clause-next : goal.returns-in-Ok-Some-clause-next
returns-in-Ok-Some-clause-next c = one_step c.args.partial c.in-Ok-Some.next c.in-Some.line c.args.bytes.now c.requires (rw c.in-Some.is at c.in-Ok.ensures.fit)
    (rw c.in-Some.is at c.in-Ok.ensures.found) (sym c.in-Ok-Some.ensures ∙ c.in-Ok-Some.field-0-is)

pub returns-in-Ok-None-clause-fault : goal.returns-in-Ok-None-clause-fault
returns-in-Ok-None-clause-fault c = (
  refl,
  no_step c.args.partial c.in-Some.line c.args.bytes.now c.requires
      (λ l k is. let q : Some c.in-Some.line ≡ Some l = sym c.in-Some.is ∙ c.in-Ok.ensures.each l k is in cc q)
      (sym c.in-Ok-None.ensures ∙ c.in-Ok-None.field-0-is),
)

pub returns-in-Ok-Some-clause-each : goal.returns-in-Ok-Some-clause-each
returns-in-Ok-Some-clause-each c = λ l k is. each_step c.args.partial c.in-Ok-Some.next c.in-Some.line l c.args.bytes.now c.requires
    (rw c.in-Some.is at c.in-Ok.ensures.fit) (sym c.in-Ok-Some.ensures ∙ c.in-Ok-Some.field-0-is) k is (λ e. sym c.in-Some.is ∙ c.in-Ok.ensures.each l k e)
