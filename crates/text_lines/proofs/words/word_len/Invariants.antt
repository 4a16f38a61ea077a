use Rattle.std.proofs.Common.{◌≡◌, ◌+◌, drop}
use Rattle.text_lines.specs.Words.{first_len}
use Rattle.text_lines.proofs.words.word_len.Given as goal

abbrev pub invariant-loop-b : goal.invariant-loop-b
invariant-loop-b l = record { counted : l.len ≡ l.b-index; left : l.len + first_len (drop l.b-index l.bytes) ≡ first_len l.bytes }
