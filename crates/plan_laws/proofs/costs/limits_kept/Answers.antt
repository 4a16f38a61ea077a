use Rattle.plan_laws.proofs.RoutineLimits as laws
use Rattle.plan_laws.proofs.costs.limits_kept.Goals as goal

pub returns : goal.returns
returns c = laws.limits_kept
