use Rattle.std.proofs.Common.{◌≡◌, ℕ, suc, drop, length}
use Rattle.std.specs.Prelude.{◌||◌}
use Rattle.inline_budget.specs.Calls.{calls_of}
use Rattle.plan_laws.specs.Numbers.{is_chosen}
use Rattle.plan_laws.specs.Orders.{greatest}
use Rattle.plan_pools.specs.Accepting.{is_accepted}
use Rattle.plan_pools.proofs.accepted.Accepted.new.Given as goal

abbrev pub invariant-loop-call : goal.invariant-loop-call
invariant-loop-call l = record {
  rows : length l.accepted ≡ greatest (λ c. suc c.caller) (calls_of l.calls);
  calls : (p k : ℕ) → (is_accepted l.accepted p k || is_chosen (calls_of (drop l.call-index l.calls)) p k) ≡ is_chosen (calls_of l.calls) p k;
}
