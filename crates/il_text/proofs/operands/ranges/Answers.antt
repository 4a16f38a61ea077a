use Rattle.std.proofs.Common.{[], ◌∷◌}
use Rattle.std.specs.Fmt.{decimal}
use Rattle.il_core.specs.Text.{array}
use Rattle.il_text.proofs.operands.ranges.Goals as goal

pub returns-in_err-second-clause-each : goal.returns-in_err-second-clause-each
returns-in_err-second-clause-each c = λ n m k l hn hm hk hl e.
    let r = c.in_ok-first.ensures.each n (decimal m ∷ array k ∷ decimal l ∷ []) hn e in
    absurd (c.in_err-second.ensures.each m (array k ∷ decimal l ∷ []) hm r.1)

pub returns-in_err-fourth-clause-each : goal.returns-in_err-fourth-clause-each
returns-in_err-fourth-clause-each c = λ n m k l hn hm hk hl e.
    let r = c.in_ok-first.ensures.each n (decimal m ∷ array k ∷ decimal l ∷ []) hn e in
    let s = c.in_ok-second.ensures.each m (array k ∷ decimal l ∷ []) hm r.1 in
    let t = c.in_ok-third.ensures.each k (decimal l ∷ []) hk s.1 in
    absurd (c.in_err-fourth.ensures.each l [] hl t.1)

pub returns-then-is_done-clause-each : goal.returns-then-is_done-clause-each
returns-then-is_done-clause-each c = λ n m k l hn hm hk hl e.
    let r = c.in_ok-first.ensures.each n (decimal m ∷ array k ∷ decimal l ∷ []) hn e in
    let s = c.in_ok-second.ensures.each m (array k ∷ decimal l ∷ []) hm r.1 in
    let t = c.in_ok-third.ensures.each k (decimal l ∷ []) hk s.1 in
    let u = c.in_ok-fourth.ensures.each l [] hl t.1 in
    cc (r.0, s.0, t.0, u.0)
