use Rattle.std.proofs.Common.{List, ℕ, ◌∷◌, ap, ◌∙◌}
use Rattle.text_lines.specs.Words.{words_left}
use Rattle.il_text.proofs.StatementForms.{with_dest}
use Rattle.il_text.proofs.statement.read_statement.Goals as goal

pub returns-in_default-after-clause-each : goal.returns-in_default-after-clause-each
returns-in_default-after-clause-each c = λ s h e.
    let r = with_dest c.in-Some-numbered.d (words_left c.args.words) (words_left c.in-Some.rest) s c.in-Some-numbered.ensures.range h
    (c.in-Some.ensures.some ∙ ap (λ (w : List ℕ). w ∷ words_left c.in-Some.rest) c.in-Some-numbered.ensures.found) e in
    absurd (c.in_default-after.ensures.none _ r.1)
