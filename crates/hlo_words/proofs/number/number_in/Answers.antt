use Rattle.std.proofs.Common.{◌≡◌, arith}
use Rattle.hlo_words.proofs.Numbers.{same_number}
use Rattle.hlo_words.proofs.number.number_in.Goals as goal

pub returns-then-number-low-clause-none : goal.returns-then-number-low-clause-none
returns-then-number-low-clause-none c = λ n h.
    let least = h.least in
    let most = h.most in
    let same : c.in_ok-number.number ≡ n = same_number c.number.result c.in_ok-number.number n c.in_ok-number.was
    (c.number.ensures.each n (omega (arith, c.ranges.high.fits)) h.spelled) in
    absurd (omega (arith, c.if-number-low.true))

pub returns-then-number-high-clause-none : goal.returns-then-number-high-clause-none
returns-then-number-high-clause-none c = λ n h.
    let least = h.least in
    let most = h.most in
    let same : c.in_ok-number.number ≡ n = same_number c.number.result c.in_ok-number.number n c.in_ok-number.was
    (c.number.ensures.each n (omega (arith, c.ranges.high.fits)) h.spelled) in
    absurd (omega (arith, c.if-number-high.true))
