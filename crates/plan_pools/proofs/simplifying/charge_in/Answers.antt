use Rattle.one_owner.proofs.Taking.{present_pool}
use Rattle.plan_pools.proofs.Walking.{small_charge}
use Rattle.plan_pools.proofs.simplifying.charge_in.Goals as goal

pub charge-requires : goal.charge-requires
charge-requires g c = present_pool _ _ _ _ _ _ g.D.Disk.faults c.args.loader.now c.args.pid c.stands.ensures c.requires

pub returns-clause-small : goal.returns-clause-small
returns-clause-small g c = small_charge _ _ _ _ _ _ c.args.loader.now c.args.pid c.charge.result c.stands.ensures c.charge.ensures
