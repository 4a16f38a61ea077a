use Rattle.std.proofs.Common.{ap, subst, sym, ◌∙◌}
use Rattle.one_owner.specs.Alone.{IsReading}
use Rattle.one_owner.proofs.Frames.{err_so, ok_so}
use Rattle.plan_laws.specs.Summary.{summary}
use Rattle.plan_pools.proofs.Seen.{see_stops, seen_rests, seen_routine, take_stops}
use Rattle.plan_pools.proofs.seeing.see.Goals as goal

pub see_pin-requires-clause-reads : goal.see_pin-requires-clause-reads
see_pin-requires-clause-reads g c = subst (IsReading c.take.new.loader) (sym c.in-Ok.ensures.ok.pid) c.in-Ok.ensures.ok.reads

pub see_pin-requires-clause-content : goal.see_pin-requires-clause-content
see_pin-requires-clause-content g c = c.in-Ok.ensures.ok.pin.content

pub returns-in-Ok-clause-ok : goal.returns-in-Ok-clause-ok
returns-in-Ok-clause-ok g c =
    ok_so _ _ c.see_pin.result
    (λ s h. seen_rests g.D.Disk.reach g.D.Disk.honest g.D.Disk.faults c.args.loader.now c.take.new.loader c.see_pin.new.loader c.args.pid c.in-Ok.pin
    c.in-Ok.ensures.ok h) c.see_pin.ensures.ok

pub returns-in-Ok-clause-summary : goal.returns-in-Ok-clause-summary
returns-in-Ok-clause-summary g c = λ trusted r at.
    ok_so _ _ c.see_pin.result
    (λ s h. h ∙ ap summary (seen_routine g.D.Disk.reach g.D.Disk.honest g.D.Disk.faults c.args.loader.now c.take.new.loader c.args.pid c.in-Ok.pin r
    c.in-Ok.ensures.ok trusted at)) c.see_pin.ensures.summary

pub returns-in-Ok-clause-err : goal.returns-in-Ok-clause-err
returns-in-Ok-clause-err g c =
    err_so _ _ c.see_pin.result
    (λ e h. see_stops g.D.Disk.reach g.D.Disk.honest g.D.Disk.faults c.args.shapes.now c.args.loader.now c.take.new.loader c.see_pin.new.loader c.args.pid
    c.in-Ok.pin e c.in-Ok.ensures.ok h)
    c.see_pin.ensures.err

pub returns-in-Err-clause-err : goal.returns-in-Err-clause-err
returns-in-Err-clause-err g c =
    take_stops g.D.Disk.reach g.D.Disk.honest g.D.Disk.faults _ _ _ c.args.shapes.now c.args.loader.now c.take.new.loader c.args.pid c.in-Err.failure
    c.in-Err.ensures.err
