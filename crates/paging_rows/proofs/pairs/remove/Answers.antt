use Rattle.one_owner.proofs.Taking.{present_pool}
use Rattle.paging_rows.proofs.Turns.{may_remove, remove_stands}
use Rattle.paging_rows.proofs.pairs.remove.Goals as goal

pub remove-requires-clause-pool : goal.remove-requires-clause-pool
remove-requires-clause-pool g c =
    may_remove c.args.pools.now c.args.pid c.args.first.now c.args.second.now c.stands.ensures.sound c.requires.stands
    (present_pool _ _ _ _ _ _ g.D.Disk.faults c.args.pools.now c.args.pid c.stands.ensures c.requires.present) c.requires.first c.requires.second

pub returns : goal.returns
returns g c = remove_stands c.args.pools.now c.remove.new.self c.args.pid c.args.first.now c.args.second.now c.stands.ensures.sound c.requires.stands
    c.requires.first c.requires.second (c.remove.ensures.removes c.requires.stands.works.running)
