use Rattle.std.proofs.Common.{sym, subst, arith}
use Rattle.std.specs.Str.{IsUtf8}
use Rattle.text_lines.proofs.Decimals.{read_is_spelled, spelled_is_read, decimal_utf8}
use Rattle.text_lines.proofs.numbers.parsed.Goals as goal

pub returns-in_default-clause-each : goal.returns-in_default-clause-each
returns-in_default-clause-each c = λ n lt e. absurd (c.in_default.ensures.cases.0 (subst IsUtf8 (sym e) (decimal_utf8 n (omega arith))))

pub returns-clause-digits : goal.returns-clause-digits
returns-clause-digits c = read_is_spelled c.args.bytes.now c.parse.result c.ok.result c.ok.ensures.value (rw c.in-Ok.ensures.cases.0 at c.parse.ensures.value.0)

pub returns-clause-each : goal.returns-clause-each
returns-clause-each c = spelled_is_read c.args.bytes.now c.parse.result c.ok.result c.ok.ensures.value (rw c.in-Ok.ensures.cases.0 at c.parse.ensures.value.0)
