use Rattle.plan_laws.proofs.Ranking as laws
use Rattle.plan_laws.proofs.choosing.ranking_is_only.Goals as goal

pub returns : goal.returns
returns c = laws.ranking_only
