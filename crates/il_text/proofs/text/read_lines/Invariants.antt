use Rattle.std.proofs.Common.{◌≡◌, ◌++◌, length}
use Rattle.il_text.specs.declared.partial.Partial.{Partial}
use Rattle.il_text.specs.Faults.{line_number, IsWhole}
use Rattle.il_text.specs.FitPartials.{IsFitPartial}
use Rattle.il_text.specs.Partials.{partial_lines}
use Rattle.il_text.specs.Texts.{lines_text}
use Rattle.il_text.proofs.Ahead.{IsAhead}
use Rattle.il_text.proofs.text.read_lines.Given as goal

abbrev pub invariant-loop-bytes : goal.invariant-loop-bytes
invariant-loop-bytes l = record {
  fit : IsFitPartial l.partial;
  text : l.b ≡ lines_text (partial_lines l.partial) ++ l.rest;
  number : l.number ≡ line_number
      (length (partial_lines l.partial));
  ahead : (f : Partial) → IsWhole l.b f → IsAhead f l.partial l.rest;
}

abbrev pub decreases-loop-bytes : goal.decreases-loop-bytes
decreases-loop-bytes l = length l.rest
