use Rattle.std.proofs.Common.{◌≡◌, ◌+◌, drop}
use Rattle.text_lines.specs.Lines.{line_len}
use Rattle.text_lines.proofs.lines.line_len.Given as goal

abbrev pub invariant-loop-b : goal.invariant-loop-b
invariant-loop-b l = record { counted : l.len ≡ l.b-index; left : l.len + line_len (drop l.b-index l.bytes) ≡ line_len l.bytes }
