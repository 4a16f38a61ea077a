use Rattle.std.proofs.Common.{◌∷◌, arith}
use Rattle.std.specs.Fmt.{decimal}
use Rattle.il_text.proofs.header.object_head.Goals as goal

pub returns-in_err-number-clause-each : goal.returns-in_err-number-clause-each
returns-in_err-number-clause-each c = λ p name n ws hp hm some hn e.
    let r = c.in_ok-pid.ensures.each p (name ∷ decimal n ∷ ws) hp e in
    let s = c.in_ok-name.ensures.each name (decimal n ∷ ws) hm r.1 in
    absurd (c.in_err-number.ensures.each n ws hn s.1)

pub returns-then-number-eq0-clause-each : goal.returns-then-number-eq0-clause-each
returns-then-number-eq0-clause-each c = λ p name n ws hp hm some hn e.
    let r = c.in_ok-pid.ensures.each p (name ∷ decimal n ∷ ws) hp e in
    let s = c.in_ok-name.ensures.each name (decimal n ∷ ws) hm r.1 in
    let t = c.in_ok-number.ensures.each n ws hn s.1 in
    absurd (omega (arith, t.0, some, c.if-number-eq0.true))

pub returns-clause-each : goal.returns-clause-each
returns-clause-each c = λ p name n ws hp hm some hn e.
    let r = c.in_ok-pid.ensures.each p (name ∷ decimal n ∷ ws) hp e in
    let s = c.in_ok-name.ensures.each name (decimal n ∷ ws) hm r.1 in
    let t = c.in_ok-number.ensures.each n ws hn s.1 in
    (r.0, s.0, t.0, t.1)
