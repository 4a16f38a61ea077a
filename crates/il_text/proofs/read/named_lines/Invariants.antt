use Rattle.std.proofs.Common.{◌≡◌, ◌*◌, ◌≤◌, take}
use Rattle.std.specs.Prelude.{sum_by}
use Rattle.il_text.specs.Checked.{line_count}
use Rattle.il_text.proofs.read.named_lines.Given as goal

abbrev pub invariant-loop-named : goal.invariant-loop-named
invariant-loop-named l = record {
  lines : l.lines ≡ sum_by (λ r. line_count r.routine) (take l.named-index l.routines);
  small : l.lines ≤ 262144 * l.named-index;
}
