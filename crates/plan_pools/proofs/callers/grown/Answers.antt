use Rattle.plan_pools.specs.Accepting.{is_accepted}
use Rattle.one_owner.proofs.Frames.{err_so, ok_so}
use Rattle.plan_pools.proofs.Frames.{trusted_on}
use Rattle.plan_pools.proofs.Growing.{copy_refused, grown_is, grown_stops, rests_on}
use Rattle.plan_pools.proofs.callers.grown.Goals as goal

pub returns-in-Ok-clause-ok : goal.returns-in-Ok-clause-ok
returns-in-Ok-clause-ok g c =
    ok_so _ _ c.splice_all.result
    (λ x h. rests_on g.D.Disk.reach g.D.Disk.honest g.D.Disk.faults c.args.loader.now c.caller_of.new.loader c.splice_all.new.loader c.in-Ok.ensures.ok h)
    c.splice_all.ensures.ok

pub returns-in-Ok-clause-routine : goal.returns-in-Ok-clause-routine
returns-in-Ok-clause-routine g c = λ trusted r at.
    ok_so _ _ c.splice_all.result
    (λ x h. grown_is g.D.Disk.reach g.D.Disk.honest g.D.Disk.faults c.args.shapes.now (is_accepted c.args.accepted.now) c.args.loader.now c.caller_of.new.loader
    c.args.pid c.in-Ok.ensures.ok.reads _ _ c.in-Ok.ensures.sites c.in-Ok.ensures.routine x (λ t. h) trusted r at)
    (c.splice_all.ensures.routine
    (trusted_on g.D.Disk.reach g.D.Disk.honest g.D.Disk.faults c.args.loader.now c.caller_of.new.loader c.in-Ok.ensures.ok.reads trusted))

pub returns-in-Ok-clause-err : goal.returns-in-Ok-clause-err
returns-in-Ok-clause-err g c =
    err_so _ _ c.splice_all.result
    (λ e s. grown_stops g.D.Disk.reach g.D.Disk.honest g.D.Disk.faults c.args.shapes.now (is_accepted c.args.accepted.now) c.args.loader.now
    c.caller_of.new.loader c.args.pid c.in-Ok.ensures.ok.reads _ _ c.in-Ok.ensures.sites c.in-Ok.ensures.routine c.splice_all.new.loader e s)
    c.splice_all.ensures.err

pub returns-in-Err-clause-err : goal.returns-in-Err-clause-err
returns-in-Err-clause-err g c =
    copy_refused g.D.Disk.reach g.D.Disk.honest g.D.Disk.faults c.args.shapes.now (is_accepted c.args.accepted.now) c.args.loader.now c.caller_of.new.loader
    c.args.pid c.in-Err.failure c.in-Err.ensures.err
