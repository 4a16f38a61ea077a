use Rattle.std.proofs.Common.{arith}
use Rattle.text_lines.proofs.Decimals.{signed_negative, word_is}
use Rattle.text_lines.proofs.numbers.negative.Goals as goal

pub returns-in-1-to-2147483648-clause-each : goal.returns-in-1-to-2147483648-clause-each
returns-in-1-to-2147483648-clause-each c = λ w lt e. let r = signed_negative w.0 c.args.n lt c.ranges.n.fits e in word_is c.wrapping_neg.result w
    (omega (arith, r.0, r.1, c.wrapping_neg.ensures))

pub returns-in_default-clause-each : goal.returns-in_default-clause-each
returns-in_default-clause-each c = λ w lt e. let r = signed_negative w.0 c.args.n lt c.ranges.n.fits e in absurd (omega (arith, r.0, r.1))

pub returns-in_default-2-clause-each : goal.returns-in_default-2-clause-each
returns-in_default-2-clause-each c = λ w lt e. let r = signed_negative w.0 c.args.n lt c.ranges.n.fits e in absurd (omega (arith, r.0, r.1))
