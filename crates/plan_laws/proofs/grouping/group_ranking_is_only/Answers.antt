use Rattle.plan_laws.proofs.GroupRanking as laws
use Rattle.plan_laws.proofs.grouping.group_ranking_is_only.Goals as goal

pub returns : goal.returns
returns c = laws.group_ranking_only
