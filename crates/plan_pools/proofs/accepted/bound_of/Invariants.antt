use Rattle.std.proofs.Common.{◌≡◌, suc, drop}
use Rattle.std.specs.Prelude.{max}
use Rattle.inline_budget.specs.Calls.{calls_of}
use Rattle.plan_laws.specs.Orders.{greatest}
use Rattle.plan_pools.proofs.accepted.bound_of.Given as goal

abbrev pub invariant-loop-call : goal.invariant-loop-call
invariant-loop-call l =
    max l.bound (greatest (λ c. suc c.caller) (calls_of (drop l.call-index l.calls))) ≡ greatest (λ c. suc c.caller) (calls_of l.calls)
