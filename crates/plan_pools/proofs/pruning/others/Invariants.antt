use Rattle.std.proofs.Common.{◌≡◌, ◌++◌, drop, not}
use Rattle.std.specs.Prelude.{filter}
use Rattle.il_laws.specs.Reach.{is_in}
use Rattle.plan_pools.proofs.pruning.others.Given as goal

abbrev pub invariant-loop-pid : goal.invariant-loop-pid
invariant-loop-pid l = (l.dead.items ++ filter (λ p. not (is_in l.live p)) (drop l.pid-index l.pids)) ≡ filter (λ p. not (is_in l.live p)) l.pids
