use Rattle.std.proofs.Common.{Err, ap, subst, sym, ◌∙◌}
use Rattle.std.specs.Arc.{arc_value}
use Rattle.il_core.specs.Valid.{IsValid}
use Rattle.il_laws.specs.Simplify.{simplify}
use Rattle.one_owner.proofs.Frames.{err_so, ok_so}
use Rattle.plan_pools.proofs.Walking.{fits_room, put_stops, unmade_stops}
use Rattle.plan_pools.proofs.simplifying.rewrite.Goals as goal

pub put_back-requires-clause-stated : goal.put_back-requires-clause-stated
put_back-requires-clause-stated g c = λ value.
    fits_room simplify c.args.loader.now c.args.pin.pid (arc_value c.args.pin.body).routine (arc_value c.in-Ok.body)
    (c.simplify_keeps.ensures.size (arc_value c.args.pin.body).routine)
    (c.in-Ok.ensures.ok ∙ ap (λ b. simplify b.routine) c.deref.ensures) value c.requires.stated

pub returns-in-Ok-clause-ok : goal.returns-in-Ok-clause-ok
returns-in-Ok-clause-ok g c =
    ok_so _ _ c.put_back.result
    (λ u w. record {
      body = arc_value c.in-Ok.body;
      routine = c.in-Ok.ensures.ok ∙ ap (λ b. simplify b.routine) c.deref.ensures;
      rewrites = w;
    })
    c.put_back.ensures.ok

pub returns-in-Ok-clause-err : goal.returns-in-Ok-clause-err
returns-in-Ok-clause-err g c =
    err_so _ _ c.put_back.result
    (λ e s. put_stops g.D.Disk.reach g.D.Disk.honest g.D.Disk.faults simplify c.args.shapes.now c.args.loader.now c.put_back.new.loader c.args.pin.pid
    (arc_value c.args.pin.body).routine
    (arc_value c.in-Ok.body) e (c.in-Ok.ensures.ok ∙ ap (λ b. simplify b.routine) c.deref.ensures) s)
    c.put_back.ensures.err

pub returns-in-Err-clause-err : goal.returns-in-Err-clause-err
returns-in-Err-clause-err g c =
    unmade_stops g.D.Disk.reach g.D.Disk.honest g.D.Disk.faults simplify c.args.shapes.now c.args.loader.now c.stop.new.loader c.args.pin.pid
    (arc_value c.args.pin.body).routine c.in-Err.unmade _
    c.requires.writes
    (λ e valid. c.in-Err.ensures.err (ap (λ u. Err u) e)
    (subst (λ b. IsValid c.args.shapes.now b.routine) (sym c.deref.ensures) valid)) c.stop.ensures.same c.stop.ensures.failed
