use Rattle.std.proofs.Common.{◌≡◌, ◌≤◌, length}
use Rattle.il_core.specs.Limits.{max_pids}
use Rattle.il_run.specs.Tables.{HasSizes}
use Rattle.il_run.proofs.tables.sizes_of.Given as goal

abbrev pub invariant-back : goal.invariant-back
invariant-back l = record {
  within : l.i ≤ length l.objects;
  count : length l.sizes.items ≡ max_pids;
  each : HasSizes l.objects l.i l.sizes.items;
}

abbrev pub decreases-back : goal.decreases-back
decreases-back l = l.i
