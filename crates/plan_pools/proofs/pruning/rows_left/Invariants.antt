use Rattle.std.proofs.Common.{◌≡◌}
use Rattle.std.specs.Prelude.{filter}
use Rattle.il_laws.specs.Reach.{is_in, stays}
use Rattle.plan_pools.proofs.pruning.rows_left.Given as goal

abbrev pub invariant-loop-row : goal.invariant-loop-row
invariant-loop-row l = l.left.items ≡ filter (stays (is_in l.live)) l.yielded
