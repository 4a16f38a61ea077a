use Rattle.std.proofs.Common.{◌≡◌, drop}
use Rattle.std.specs.Prelude.{max}
use Rattle.plan_laws.specs.Orders.{greatest}
use Rattle.inline_budget.proofs.wave.highest.Given as goal

abbrev pub invariant-loop-level : goal.invariant-loop-level
invariant-loop-level l = max l.highest (greatest (λ x. x) (drop l.level-index l.levels)) ≡ greatest (λ x. x) l.levels
