use Rattle.std.proofs.Common.{◌≡◌, ◌+◌, ◌*◌, ◌≤◌, take}
use Rattle.std.specs.Prelude.{sum_by}
use Rattle.std.specs.List.{AllByRecursion}
use Rattle.il_core.specs.Valid.{IsValid}
use Rattle.il_text.specs.Checked.{line_count}
use Rattle.il_text.proofs.check.first_flaw.Given as goal

abbrev pub invariant-loop-routine : goal.invariant-loop-routine
invariant-loop-routine l = record {
  valid : AllByRecursion (IsValid l.shapes) (take l.routine-index l.routines);
  line : l.at ≡ l.fn.line + sum_by line_count (take l.routine-index l.routines);
  small : l.at ≤ l.fn.line + 262144 * l.routine-index;
}
