use Rattle.std.proofs.Common.{ap, subst, ◌∙◌}
use Rattle.std.specs.Arc.{arc_value}
use Rattle.one_owner.specs.Alone.{reading}
use Rattle.one_owner.proofs.Hands.{some_worker}
use Rattle.plan_pools.specs.Adding.{MakeCause, clone_from, clone_of}
use Rattle.plan_pools.proofs.Cloned.{back_stops, unmade_stops}
use Rattle.plan_pools.proofs.adding.clone_pin.Goals as goal

pub stop-requires : goal.stop-requires
stop-requires g c = record { worker = some_worker c.args.loader.now.core (reading c.args.pin.pid) c.requires.reads.alone }

pub returns-in-Ok-give_back-clause-clone : goal.returns-in-Ok-give_back-clause-clone
returns-in-Ok-give_back-clause-clone g c = c.in-Ok.ensures.ok ∙ ap (λ b. clone_from (clone_of c.args.wanted.now) b.routine) c.deref.ensures

pub returns-in-Err-give_back-clause-err : goal.returns-in-Err-give_back-clause-err
returns-in-Err-give_back-clause-err g c =
    back_stops g.D.Disk.faults c.args.shapes.now (clone_of c.args.wanted.now) c.args.loader.now c.give_back.new.loader (arc_value c.args.pin.body).routine _
    c.in-Err-give_back.ensures.err

pub returns-in-Err-clause-err : goal.returns-in-Err-clause-err
returns-in-Err-clause-err g c =
    unmade_stops g.D.Disk.faults c.args.shapes.now (clone_of c.args.wanted.now) c.args.loader.now c.stop.new.loader c.args.pin.pid
    (arc_value c.args.pin.body).routine _ c.in-Err.failure c.requires.reads
    (subst (λ b. MakeCause c.args.shapes.now (clone_of c.args.wanted.now) b.routine (g.D.Disk.faults c.args.loader.now.disk)
    (g.D.Disk.faults c.stop.new.loader.disk) c.in-Err.failure) c.deref.ensures
    (c.in-Err.ensures.err (g.D.Disk.faults c.args.loader.now.disk) (g.D.Disk.faults c.stop.new.loader.disk)))
    c.stop.ensures.same c.stop.ensures.failed
