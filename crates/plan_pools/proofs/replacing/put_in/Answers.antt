use Rattle.std.proofs.Common.{◌≤◌, ap, length, refl, subst, ◌∙◌}
use Rattle.std.specs.Arc.{arc_value}
use Rattle.compact_form.specs.Compact.{compact}
use Rattle.il_core.specs.Size.{charge}
use Rattle.one_owner.proofs.Frames.{err_so, ok_so}
use Rattle.plan_pools.proofs.Growing.{put_changes, put_stated, put_stops}
use Rattle.plan_pools.proofs.Stopped.{take_stops}
use Rattle.plan_pools.proofs.replacing.put_in.Goals as goal

pub put_back-requires-clause-stated : goal.put_back-requires-clause-stated
put_back-requires-clause-stated g c = λ value.
    put_stated g.D.Disk.reach g.D.Disk.honest g.D.Disk.faults c.args.loader.now c.take_to_write.new.loader c.args.pid _ c.in-Ok.pin c.in-Ok.ensures.ok
    (arc_value c.args.body) c.charge_of-room.result refl (c.charge_of-room.ensures.charge ∙ ap (λ b. charge b.routine) c.deref.ensures)
    (subst (λ b. length (compact b.routine) ≤ c.charge_of-room.result) c.deref.ensures c.charge_of-room.ensures.form)

pub returns-in-Ok-clause-ok : goal.returns-in-Ok-clause-ok
returns-in-Ok-clause-ok g c =
    ok_so _ _ c.put_back.result
    (λ u w. put_changes g.D.Disk.reach g.D.Disk.honest g.D.Disk.faults c.args.loader.now c.take_to_write.new.loader c.args.pid _ c.in-Ok.pin c.in-Ok.ensures.ok
    (arc_value c.args.body) c.put_back.new.loader w)
    c.put_back.ensures.ok

pub returns-in-Ok-clause-err : goal.returns-in-Ok-clause-err
returns-in-Ok-clause-err g c =
    err_so _ _ c.put_back.result
    (λ e s. put_stops g.D.Disk.reach g.D.Disk.honest g.D.Disk.faults c.args.loader.now c.take_to_write.new.loader c.args.pid _ c.in-Ok.pin c.in-Ok.ensures.ok
    (arc_value c.args.body) c.put_back.new.loader e s)
    c.put_back.ensures.err

pub returns-in-Err-clause-err : goal.returns-in-Err-clause-err
returns-in-Err-clause-err g c =
    take_stops g.D.Disk.reach g.D.Disk.honest g.D.Disk.faults _ _ _ _ _ c.args.loader.now c.take_to_write.new.loader c.args.pid c.in-Err.failure
    c.in-Err.ensures.err
