use Rattle.std.proofs.Common.{Err, ap, subst, sym, ◌∙◌}
use Rattle.std.specs.Arc.{arc_value}
use Rattle.il_core.specs.Valid.{IsValid}
use Rattle.plan_laws.specs.Summary.{summary}
use Rattle.one_owner.specs.Alone.{reading}
use Rattle.one_owner.proofs.Hands.{some_worker}
use Rattle.plan_pools.proofs.Seen.{back_stops, unseen_stops}
use Rattle.plan_pools.proofs.seeing.see_pin.Goals as goal

pub stop-requires : goal.stop-requires
stop-requires g c = record { worker = some_worker c.args.loader.now.core (reading c.args.pin.pid) c.requires.reads.alone }

pub returns-in-Ok-give_back-clause-summary : goal.returns-in-Ok-give_back-clause-summary
returns-in-Ok-give_back-clause-summary g c = c.in-Ok.ensures.ok ∙ ap (λ b. summary b.routine) c.deref.ensures

pub returns-in-Err-give_back-clause-err : goal.returns-in-Err-give_back-clause-err
returns-in-Err-give_back-clause-err g c =
    back_stops g.D.Disk.reach g.D.Disk.honest g.D.Disk.faults c.args.shapes.now c.args.loader.now c.give_back.new.loader c.args.pin.pid
    (arc_value c.args.pin.body).routine _ c.in-Err-give_back.ensures.err

pub returns-in-Err-clause-err : goal.returns-in-Err-clause-err
returns-in-Err-clause-err g c =
    unseen_stops g.D.Disk.reach g.D.Disk.honest g.D.Disk.faults c.args.shapes.now c.args.loader.now c.stop.new.loader c.args.pin.pid
    (arc_value c.args.pin.body).routine c.in-Err.unmade _ c.requires.reads
    (λ e valid. c.in-Err.ensures.err (ap (λ u. Err u) e) (subst (λ b. IsValid c.args.shapes.now b.routine) (sym c.deref.ensures) valid)) c.stop.ensures.same
    c.stop.ensures.failed
