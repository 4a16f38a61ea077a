use Rattle.plan_laws.proofs.Spending as laws
use Rattle.plan_laws.proofs.costs.budget_kept.Goals as goal

pub returns : goal.returns
returns c = laws.budget_kept
