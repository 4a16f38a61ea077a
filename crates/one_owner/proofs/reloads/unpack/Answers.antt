use Rattle.std.proofs.Common.{None, sym, ◌∙◌}
use Rattle.one_owner.specs.Causes.{TakeCause}
use Rattle.one_owner.proofs.Frames.{fails_stop}
use Rattle.one_owner.proofs.Hands.{some_worker}
use Rattle.one_owner.proofs.Restoring.{unpacked_ends}
use Rattle.one_owner.proofs.reloads.unpack.Goals as goal

pub stop-requires-clause-worker : goal.stop-requires-clause-worker
stop-requires-clause-worker g c = some_worker c.args.loader.now.core _ c.requires.underway.alone

pub unreachable-requires : goal.unreachable-requires
unreachable-requires g c =
    let none = rw c.in_default-found.is at c.in-Ok.ensures.absent in
    let i = c.requires.reload in none i.content i.value (sym (c.as_slice.ensures.value ∙ i.spelled))

pub finish-requires-clause-ends : goal.finish-requires-clause-ends
finish-requires-clause-ends g c =
    let f = rw c.in-Some.is at c.in-Ok.ensures.found in
    unpacked_ends _ _ _ _ _ _ g.D.Disk.faults c.args.mode c.args.loader.now c.args.pid c.args.bytes c.in-Some.body c.requires.underway
    c.requires.reload f.0 (f.1 ∙ c.as_slice.ensures.value)

pub returns-in_default-clause-err : goal.returns-in_default-clause-err
returns-in_default-clause-err g c =
    let C = TakeCause g.T.Poolable.charge_of g.T.Poolable.encoding g.T.Poolable.is_value g.D.Disk.reach g.D.Disk.honest c.args.loader.now c.args.pid
    (g.D.Disk.faults c.args.loader.now.disk) (g.D.Disk.faults c.stop.new.loader.disk) in
    rw c.stop.ensures.same
    (fails_stop g.D.Disk.faults C c.args.loader.now c.stop.new.loader None _ c.requires.underway.running c.requires.underway.home
    c.requires.underway.later tt c.stop.ensures.failed)
