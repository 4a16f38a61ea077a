use Rattle.plan_laws.proofs.Spending as laws
use Rattle.plan_laws.proofs.costs.passes_within.Goals as goal

pub returns : goal.returns
returns c = laws.passes_within
