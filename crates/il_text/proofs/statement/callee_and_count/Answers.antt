use Rattle.std.proofs.Common.{◌∷◌, arith}
use Rattle.std.specs.Prelude.{codes}
use Rattle.std.specs.Fmt.{decimal}
use Rattle.il_text.proofs.statement.callee_and_count.Goals as goal

pub returns-in_err-count-clause-each : goal.returns-in_err-count-clause-each
returns-in_err-count-clause-each c = λ p n ws hp hn e.
    let r = c.in_ok-callee.ensures.each p (codes "count" ∷ decimal n ∷ ws) (omega arith) e in
    let s = c.in_ok-words.ensures.each (decimal n ∷ ws) r.1 in
    absurd (c.in_err-count.ensures.each n ws hn s)

pub returns-clause-each : goal.returns-clause-each
returns-clause-each c = λ p n ws hp hn e.
    let r = c.in_ok-callee.ensures.each p (codes "count" ∷ decimal n ∷ ws) (omega arith) e in
    let s = c.in_ok-words.ensures.each (decimal n ∷ ws) r.1 in
    let t = c.in_ok-count.ensures.each n ws hn s in
    (r.0, t.0, t.1)
