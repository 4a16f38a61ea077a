use Rattle.std.proofs.Common.{◌≡◌, ap, ◌∙◌, false}
use Rattle.hlo_words.specs.Settings.{is_padded_text}
use Rattle.hlo_words.proofs.Numbers.{decimal_unpadded}
use Rattle.hlo_words.proofs.number.number.Goals as goal

pub returns-then-is_padded-clause-each : goal.returns-then-is_padded-clause-each
returns-then-is_padded-clause-each c = λ n lt e.
    let plain : is_padded_text c.args.text.now ≡ false = ap is_padded_text e ∙ decimal_unpadded n lt in
    cc
