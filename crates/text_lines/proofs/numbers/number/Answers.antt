use Rattle.std.proofs.Common.{◌≡◌, ap, ◌∙◌, arith, false}
use Rattle.text_lines.specs.Numerals.{is_padded}
use Rattle.text_lines.proofs.Decimals.{decimal_plain}
use Rattle.text_lines.proofs.numbers.number.Goals as goal

pub returns-then-is_padded-clause-each : goal.returns-then-is_padded-clause-each
returns-then-is_padded-clause-each c = λ n lt e.
    let plain : is_padded c.args.word.now ≡ false = ap is_padded e ∙ decimal_plain n (omega arith) in
    cc
