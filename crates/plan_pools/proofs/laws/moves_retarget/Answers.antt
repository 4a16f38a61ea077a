use Rattle.plan_pools.proofs.GroupMoves.{moves_retarget}
use Rattle.plan_pools.proofs.laws.moves_retarget.Goals as goal

pub returns : goal.returns
returns c = moves_retarget
