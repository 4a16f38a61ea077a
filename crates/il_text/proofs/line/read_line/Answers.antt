use Rattle.std.proofs.Common.{ap, sym, subst, ◌∙◌, Some}
use Rattle.il_text.specs.Lines.{IsFitLine}
use Rattle.text_lines.specs.Words.{words_left}
use Rattle.il_text.proofs.LineForms.{no_kind}
use Rattle.il_text.proofs.line.read_line.Goals as goal

pub returns-in-None-clause-each : goal.returns-in-None-clause-each
returns-in-None-clause-each c = λ l h e.
    let r = no_kind c.in-Some.first.now (words_left c.in-Some.rest) l (λ k is. let q = c.in-None.ensures.each k is in absurd (cc q))
    (sym c.in-Some.ensures.some ∙ c.words_of.ensures ∙ e) in
    c.label.ensures.each r.0 (subst IsFitLine r.1.line h) r.1.word ∙ ap Some (sym r.1.line)

pub returns-in-None-2-clause-each : goal.returns-in-None-2-clause-each
returns-in-None-2-clause-each c = λ l h e.
    let r = no_kind c.in-Some.first.now (words_left c.in-Some.rest) l (λ k is. let q = c.in-None.ensures.each k is in absurd (cc q))
    (sym c.in-Some.ensures.some ∙ c.words_of.ensures ∙ e) in
    absurd (c.is_done.ensures.no c.if-is_done.false r.1.alone)
