use Rattle.std.proofs.Common.{ap, subst, sym, ◌∙◌}
use Rattle.one_owner.specs.Alone.{IsReading}
use Rattle.one_owner.proofs.Frames.{err_so, ok_so}
use Rattle.plan_pools.proofs.Seen.{seen_rests, seen_routine}
use Rattle.plan_pools.specs.Adding.{clone_from, clone_of}
use Rattle.plan_pools.proofs.Cloned.{made_stops, take_stops}
use Rattle.plan_pools.proofs.adding.read_clone.Goals as goal

pub clone_pin-requires-clause-reads : goal.clone_pin-requires-clause-reads
clone_pin-requires-clause-reads g c = subst (IsReading c.take.new.loader) (sym c.in-Ok.ensures.ok.pid) c.in-Ok.ensures.ok.reads

pub clone_pin-requires-clause-content : goal.clone_pin-requires-clause-content
clone_pin-requires-clause-content g c = c.in-Ok.ensures.ok.pin.content

pub returns-in-Ok-clause-ok : goal.returns-in-Ok-clause-ok
returns-in-Ok-clause-ok g c =
    ok_so _ _ c.clone_pin.result
    (λ s h. seen_rests g.D.Disk.reach g.D.Disk.honest g.D.Disk.faults c.args.loader.now c.take.new.loader c.clone_pin.new.loader c.args.wanted.now.callee
    c.in-Ok.pin c.in-Ok.ensures.ok h) c.clone_pin.ensures.ok

pub returns-in-Ok-clause-pid : goal.returns-in-Ok-clause-pid
returns-in-Ok-clause-pid g c = ok_so _ _ c.clone_pin.result (λ q h. ap (λ r. r.pid) h) c.clone_pin.ensures.clone

pub returns-in-Ok-clause-clone : goal.returns-in-Ok-clause-clone
returns-in-Ok-clause-clone g c = λ trusted r at.
    ok_so _ _ c.clone_pin.result
    (λ q h. h ∙ ap (clone_from (clone_of c.args.wanted.now)) (seen_routine g.D.Disk.reach g.D.Disk.honest g.D.Disk.faults c.args.loader.now c.take.new.loader
    c.args.wanted.now.callee c.in-Ok.pin r c.in-Ok.ensures.ok trusted at)) c.clone_pin.ensures.clone

pub returns-in-Ok-clause-err : goal.returns-in-Ok-clause-err
returns-in-Ok-clause-err g c =
    err_so _ _ c.clone_pin.result
    (λ e s. made_stops g.D.Disk.reach g.D.Disk.honest g.D.Disk.faults c.args.shapes.now (clone_of c.args.wanted.now) c.args.loader.now c.take.new.loader
    c.clone_pin.new.loader c.in-Ok.pin e c.in-Ok.ensures.ok s)
    c.clone_pin.ensures.err

pub returns-in-Err-clause-err : goal.returns-in-Err-clause-err
returns-in-Err-clause-err g c =
    take_stops g.D.Disk.reach g.D.Disk.honest g.D.Disk.faults c.args.shapes.now (clone_of c.args.wanted.now) _ _ _ c.args.loader.now c.take.new.loader
    c.args.wanted.now.callee c.in-Err.failure c.in-Err.ensures.err
