use Rattle.std.proofs.Common.{◌≡◌, ◌*◌, ◌≤◌, take}
use Rattle.std.specs.Prelude.{sum_by}
use Rattle.il_text.specs.Checked.{line_count}
use Rattle.il_text.proofs.read.lines_of.Given as goal

abbrev pub invariant-loop-routine : goal.invariant-loop-routine
invariant-loop-routine l = record { lines : l.lines ≡ sum_by line_count (take l.routine-index l.routines); small : l.lines ≤ 262144 * l.routine-index }
