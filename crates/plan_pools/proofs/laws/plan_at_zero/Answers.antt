use Rattle.plan_pools.proofs.Zero.{final_as_good, plans_at_zero}
use Rattle.plan_pools.proofs.laws.plan_at_zero.Goals as goal

pub returns-clause-plan : goal.returns-clause-plan
returns-clause-plan c = plans_at_zero

pub returns-clause-good : goal.returns-clause-good
returns-clause-good c = final_as_good
