use Rattle.std.proofs.Common.{◌≡◌, ◌++◌, drop}
use Rattle.plan_pools.specs.Contents.{routine_pids}
use Rattle.plan_pools.proofs.simplifying.pids_of.Given as goal

abbrev pub invariant-loop-row : goal.invariant-loop-row
invariant-loop-row l = l.pids.items ++ routine_pids (drop l.row-index l.rows) ≡ routine_pids l.rows
