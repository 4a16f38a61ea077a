use Rattle.std.proofs.Common.{refl, subst, sym}
use Rattle.one_owner.specs.Alone.{IsWriting}
use Rattle.one_owner.proofs.Frames.{err_so, ok_so}
use Rattle.plan_pools.proofs.Walking.{one_changed, rewrite_stops, stated, take_stops}
use Rattle.plan_pools.specs.Retargeting.{moved}
use Rattle.plan_pools.proofs.retargeting.retarget_one.Goals as goal

pub rewrite-requires-clause-writes : goal.rewrite-requires-clause-writes
rewrite-requires-clause-writes g c = subst (IsWriting c.take_to_write.new.loader) (sym c.in-Ok.ensures.ok.pid) c.in-Ok.ensures.ok.writes

pub rewrite-requires-clause-stated : goal.rewrite-requires-clause-stated
rewrite-requires-clause-stated g c =
    stated g.D.Disk.reach g.D.Disk.honest g.D.Disk.faults (moved c.args.callers.now) _ g.D.Disk.bytes c.args.loader.now c.take_to_write.new.loader c.args.pid
    c.charge_in-room.result _ c.in-Ok.pin c.in-Ok.ensures.ok
    c.stands.ensures c.charge_in-room.ensures.charge refl

pub returns-in-Ok-clause-ok : goal.returns-in-Ok-clause-ok
returns-in-Ok-clause-ok g c =
    ok_so _ _ c.rewrite.result
    (λ u w. one_changed g.D.Disk.reach g.D.Disk.honest g.D.Disk.faults (moved c.args.callers.now) c.args.loader.now c.take_to_write.new.loader
    c.rewrite.new.loader c.args.pid _ c.in-Ok.pin c.in-Ok.ensures.ok w)
    c.rewrite.ensures.ok

pub returns-in-Ok-clause-err : goal.returns-in-Ok-clause-err
returns-in-Ok-clause-err g c =
    err_so _ _ c.rewrite.result
    (λ e s. rewrite_stops g.D.Disk.reach g.D.Disk.honest g.D.Disk.faults (moved c.args.callers.now) c.args.shapes.now c.args.loader.now
    c.take_to_write.new.loader c.rewrite.new.loader c.args.pid _ c.in-Ok.pin e c.in-Ok.ensures.ok s)
    c.rewrite.ensures.err

pub returns-in-Err-clause-err : goal.returns-in-Err-clause-err
returns-in-Err-clause-err g c =
    take_stops g.D.Disk.reach g.D.Disk.honest g.D.Disk.faults (moved c.args.callers.now) _ _ _ c.args.shapes.now c.args.loader.now
    c.take_to_write.new.loader c.args.pid c.in-Err.failure c.in-Err.ensures.err
