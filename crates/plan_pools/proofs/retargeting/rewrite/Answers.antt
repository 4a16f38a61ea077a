use Rattle.std.proofs.Common.{ap, subst, ◌∙◌}
use Rattle.std.specs.Arc.{arc_value}
use Rattle.one_owner.specs.Alone.{writing}
use Rattle.one_owner.proofs.Frames.{err_so, ok_so}
use Rattle.one_owner.proofs.Hands.{some_worker}
use Rattle.plan_pools.specs.Rewriting.{RewriteCause}
use Rattle.plan_pools.proofs.Walking.{fits_room, put_stops}
use Rattle.plan_pools.specs.Retargeting.{moved, moves_for}
use Rattle.plan_pools.proofs.Moved.{no_larger}
use Rattle.plan_pools.proofs.Rewritten.{unmade_stops}
use Rattle.plan_pools.proofs.retargeting.rewrite.Goals as goal

pub put_back-requires-clause-stated : goal.put_back-requires-clause-stated
put_back-requires-clause-stated g c = λ value.
    fits_room (moved c.args.callers.now) c.args.loader.now c.args.pin.pid (arc_value c.args.pin.body).routine (arc_value c.in-Ok.body)
    (no_larger (moves_for c.args.callers.now (arc_value c.args.pin.body).routine.pid) (arc_value c.args.pin.body).routine)
    (c.in-Ok.ensures.ok ∙ ap (λ b. moved c.args.callers.now b.routine) c.deref.ensures) value c.requires.stated

pub returns-in-Ok-clause-ok : goal.returns-in-Ok-clause-ok
returns-in-Ok-clause-ok g c =
    ok_so _ _ c.put_back.result
    (λ u w. record {
      body = arc_value c.in-Ok.body;
      routine = c.in-Ok.ensures.ok ∙ ap (λ b. moved c.args.callers.now b.routine) c.deref.ensures;
      rewrites = w;
    })
    c.put_back.ensures.ok

pub returns-in-Ok-clause-err : goal.returns-in-Ok-clause-err
returns-in-Ok-clause-err g c =
    err_so _ _ c.put_back.result
    (λ e s. put_stops g.D.Disk.reach g.D.Disk.honest g.D.Disk.faults (moved c.args.callers.now) c.args.shapes.now c.args.loader.now c.put_back.new.loader
    c.args.pin.pid (arc_value c.args.pin.body).routine
    (arc_value c.in-Ok.body) e (c.in-Ok.ensures.ok ∙ ap (λ b. moved c.args.callers.now b.routine) c.deref.ensures) s)
    c.put_back.ensures.err

pub stop-requires : goal.stop-requires
stop-requires g c = record { worker = some_worker c.args.loader.now.core (writing c.args.pin.pid) c.requires.writes.alone }

pub returns-in-Err-clause-err : goal.returns-in-Err-clause-err
returns-in-Err-clause-err g c =
    unmade_stops g.D.Disk.faults (moved c.args.callers.now) c.args.shapes.now c.args.loader.now c.stop.new.loader c.args.pin.pid
    (arc_value c.args.pin.body).routine _ c.in-Err.failure c.requires.writes
    (subst (λ b. RewriteCause (moved c.args.callers.now) c.args.shapes.now c.args.pin.pid b.routine c.args.loader.now.core.limit
    (g.D.Disk.faults c.args.loader.now.disk) (g.D.Disk.faults c.stop.new.loader.disk) c.in-Err.failure) c.deref.ensures
    (c.in-Err.ensures.err c.args.loader.now.core.limit (g.D.Disk.faults c.args.loader.now.disk) (g.D.Disk.faults c.stop.new.loader.disk)))
    c.stop.ensures.same c.stop.ensures.failed
