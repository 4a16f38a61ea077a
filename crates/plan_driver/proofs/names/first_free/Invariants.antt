use Rattle.std.proofs.Common.{◌≡◌, ◌≤◌, drop}
use Rattle.std.specs.Prelude.{max, ◌^◌}
use Rattle.plan_driver.specs.Optimising.{first_free}
use Rattle.plan_driver.proofs.names.first_free.Given as goal

abbrev pub invariant-loop-row : goal.invariant-loop-row
invariant-loop-row l = record {
  whole : max l.past (first_free (drop l.row-index l.rows)) ≡ first_free l.rows;
  few : l.past ≤ 2 ^ 17;
}
