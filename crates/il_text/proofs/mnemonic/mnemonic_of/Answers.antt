use Rattle.std.proofs.Common.{◌∙◌, ap}
use Rattle.il_text.specs.Mnemonics.{mnemonic_named}
use Rattle.il_text.proofs.NamedThings.{text_named, told_has}
use Rattle.il_text.proofs.mnemonic.mnemonic_of.Goals as goal

pub returns-clause-found : goal.returns-clause-found
returns-clause-found c = told_has c.args.word.now c.mnemonic_named.result c.mnemonic_named.ensures

pub returns-clause-each : goal.returns-clause-each
returns-clause-each c = λ m e. c.mnemonic_named.ensures ∙ ap mnemonic_named e ∙ text_named m
