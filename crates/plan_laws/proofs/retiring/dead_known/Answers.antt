use Rattle.plan_laws.proofs.DeadRoutines as laws
use Rattle.plan_laws.proofs.retiring.dead_known.Goals as goal

pub returns-clause-stay : goal.returns-clause-stay
returns-clause-stay c = laws.reachable_kept

pub returns-clause-go : goal.returns-clause-go
returns-clause-go c = laws.dead_go
