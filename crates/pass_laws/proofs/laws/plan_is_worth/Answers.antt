use Rattle.pass_laws.proofs.Worthy as laws
use Rattle.pass_laws.proofs.laws.plan_is_worth.Goals as goal

pub returns : goal.returns
returns c = laws.plan_is_worth
