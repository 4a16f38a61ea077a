use Rattle.std.proofs.Common.{◌≡◌, drop}
use Rattle.il_text.specs.Mnemonics.{named, mnemonic_text, mnemonics, mnemonic_named}
use Rattle.il_text.proofs.mnemonic.mnemonic_named.Given as goal

-- no name before the index is the word
abbrev pub invariant-loop-mnemonic : goal.invariant-loop-mnemonic
invariant-loop-mnemonic l = record {
  items : l.mnemonic-items ≡ mnemonics;
  none_before : mnemonic_named l.word ≡ named mnemonic_text
      (drop l.mnemonic-index mnemonics) l.word;
}
