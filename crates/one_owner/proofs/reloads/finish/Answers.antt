use Rattle.std.proofs.Common.{subst, sym}
use Rattle.std.specs.Arc.{arc_value}
use Rattle.naim_loader.specs.Calls.{disk_of}
use Rattle.naim_loader.specs.Moves.{pid_of}
use Rattle.one_owner.specs.Causes.{TakeCause}
use Rattle.one_owner.proofs.Frames.{fails_stop}
use Rattle.one_owner.proofs.Hands.{some_worker}
use Rattle.one_owner.proofs.Restoring.{again_same, ends_with, reload_answered, reloaded}
use Rattle.one_owner.proofs.reloads.finish.Goals as goal

pub reload_end-requires-clause-worker : goal.reload_end-requires-clause-worker
reload_end-requires-clause-worker g c = some_worker c.args.loader.now.core _ c.requires.underway.alone

pub reload_end-requires-clause-ends : goal.reload_end-requires-clause-ends
reload_end-requires-clause-ends g c =
    ends_with g.T.Poolable.charge_of g.T.Poolable.encoding g.T.Poolable.is_value g.D.Disk.bytes g.D.Disk.reach g.D.Disk.honest g.D.Disk.faults
    c.args.mode c.args.loader.now c.args.m c.args.body (arc_value c.in-Ok.body) c.in-Ok.body c.in-Ok.again
    c.requires.ends c.in-Ok.ensures.1 (sym c.in-Ok.ensures.0)

pub reload_end-requires-clause-again : goal.reload_end-requires-clause-again
reload_end-requires-clause-again g c = again_same c.args.mode c.args.body (arc_value c.in-Ok.body) c.in-Ok.again c.in-Ok.ensures.1 (sym c.in-Ok.ensures.0)

pub reload_end-requires-clause-value : goal.reload_end-requires-clause-value
reload_end-requires-clause-value g c = subst g.T.Poolable.is_value (sym c.in-Ok.ensures.0) c.requires.ends.0

pub unreachable-requires : goal.unreachable-requires
unreachable-requires g c =
    reload_answered g.T.Poolable.charge_of g.T.Poolable.encoding g.T.Poolable.is_value g.D.Disk.bytes g.D.Disk.reach g.D.Disk.honest g.D.Disk.faults
    c.args.mode c.args.loader.now c.reload_end.new.self c.args.m
    (arc_value c.in-Ok.body) c.in-Ok.again c.reload_end.result c.requires.underway.running c.reload_end.ensures.answer c.in_default.not-Ready

pub stop-requires-clause-worker : goal.stop-requires-clause-worker
stop-requires-clause-worker g c = some_worker c.args.loader.now.core _ c.requires.underway.alone

pub returns-in-Ready-clause-ok : goal.returns-in-Ready-clause-ok
returns-in-Ready-clause-ok g c =
    reloaded g.T.Poolable.charge_of g.T.Poolable.encoding g.T.Poolable.is_value g.D.Disk.bytes g.D.Disk.reach g.D.Disk.honest g.D.Disk.faults
    c.args.mode c.args.loader.now c.reload_end.new.self c.args.m c.args.body (arc_value c.in-Ok.body) c.in-Ok.again
    c.in-Ready.pin c.requires.underway c.stands.ensures c.in-Ok.ensures.1 (sym c.in-Ok.ensures.0) c.in-Ready.ensures.answer

pub returns-in-Err-clause-err : goal.returns-in-Err-clause-err
returns-in-Err-clause-err g c =
    let C = TakeCause g.T.Poolable.charge_of g.T.Poolable.encoding g.T.Poolable.is_value g.D.Disk.reach g.D.Disk.honest c.args.loader.now (pid_of c.args.m)
    (g.D.Disk.faults c.args.loader.now.disk) (g.D.Disk.faults c.stop.new.loader.disk) in
    rw c.stop.ensures.same (fails_stop g.D.Disk.faults C c.args.loader.now c.stop.new.loader (disk_of c.args.m) _ c.requires.underway.running
    c.requires.underway.home c.requires.underway.later tt c.stop.ensures.failed)
