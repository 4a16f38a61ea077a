use Rattle.std.specs.Arc.{arc_value}
use Rattle.naim_loader.specs.Calls.{disk_of}
use Rattle.naim_loader.specs.Moves.{pid_of}
use Rattle.paging_rows.proofs.Turns.{moving_worker, reload_stands}
use Rattle.paging_rows.proofs.pairs.finish.Goals as goal

pub reload_end-requires-clause-worker : goal.reload_end-requires-clause-worker
reload_end-requires-clause-worker g c = moving_worker _ _ _ _ _ _ _ _ c.requires.worker c.requires.moves

pub returns : goal.returns
returns g c =
    let a = rw c.in-Ready-Read.field-0-is at c.in-Ready-Read.ensures.answer in
    reload_stands g.T.Poolable.charge_of g.T.Poolable.encoding g.D.Disk.reach g.D.Disk.honest c.args.pools.now c.reload_end.new.self c.args.worker
    (pid_of c.args.m) (disk_of c.args.m) (arc_value c.in-Ok.body) c.in-Ready-Read.pin c.args.other.now c.args.by_disk
    c.requires.worker c.requires.moves a.0 a.1.0 a.1.1
