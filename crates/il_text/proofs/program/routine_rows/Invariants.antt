use Rattle.std.proofs.Common.{◌≡◌, ◌++◌, map}
use Rattle.il_text.specs.Assembled.{routine_row}
use Rattle.il_text.proofs.program.routine_rows.Given as goal

abbrev pub invariant-loop-name : goal.invariant-loop-name
invariant-loop-name l = record {
  rows : l.rows.items ≡ l.initial.rows.items ++ map routine_row l.yielded;
  routines : l.routines ≡ map (λ x. x.routine) l.yielded;
}
