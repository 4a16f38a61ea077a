use Rattle.plan_laws.proofs.Members as laws
use Rattle.plan_laws.proofs.grouping.groups_move.Goals as goal

pub returns : goal.returns
returns c = laws.groups_move
