use Rattle.plan_laws.proofs.Levels as laws
use Rattle.plan_laws.proofs.choosing.levels_fall.Goals as goal

pub returns-clause-fall : goal.returns-clause-fall
returns-clause-fall c = laws.levels_fall

pub returns-clause-only : goal.returns-clause-only
returns-clause-only c = laws.ranked_acyclic
