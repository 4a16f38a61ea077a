use Rattle.std.proofs.Common.{arith, sym}
use Rattle.text_lines.proofs.Decimals.{signed_nonnegative, word_is}
use Rattle.text_lines.proofs.numbers.nonnegative.Goals as goal

pub returns-then-n-clause-each : goal.returns-then-n-clause-each
returns-then-n-clause-each c = λ w lt e. word_is c.args.n w (sym (signed_nonnegative w.0 c.args.n lt c.ranges.n.fits e).1)

pub returns-else-n-clause-each : goal.returns-else-n-clause-each
returns-else-n-clause-each c = λ w lt e. let r = signed_nonnegative w.0 c.args.n lt c.ranges.n.fits e in absurd (omega (arith, r.0, r.1))
