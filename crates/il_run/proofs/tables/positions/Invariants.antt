use Rattle.std.proofs.Common.{◌≡◌, ◌≤◌, length}
use Rattle.il_core.specs.Limits.{max_pids}
use Rattle.il_run.specs.Tables.{HasPositions}
use Rattle.il_run.proofs.tables.positions.Given as goal

abbrev pub invariant-back : goal.invariant-back
invariant-back l = record {
  within : l.i ≤ length l.routines;
  count : length l.position.items ≡ max_pids;
  each : HasPositions l.routines l.i l.position.items;
}

abbrev pub decreases-back : goal.decreases-back
decreases-back l = l.i
