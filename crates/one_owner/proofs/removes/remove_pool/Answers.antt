use Rattle.one_owner.proofs.Removing.{gone, may_go}
use Rattle.one_owner.proofs.removes.remove_pool.Goals as goal

pub remove-requires-clause-pool : goal.remove-requires-clause-pool
remove-requires-clause-pool g c = may_go _ _ _ _ _ _ g.D.Disk.faults c.args.loader.now c.args.pid c.requires.rests c.stands.ensures c.requires.present

pub remove-requires-clause-closed : goal.remove-requires-clause-closed
remove-requires-clause-closed g c = c.requires.rests.alone.closed

pub returns : goal.returns
returns g c =
    gone _ _ _ _ _ _ g.D.Disk.faults c.args.loader.now c.remove.new.self c.args.pid c.requires.rests c.stands.ensures c.requires.present
    (c.remove.ensures.removes c.requires.rests.running)
