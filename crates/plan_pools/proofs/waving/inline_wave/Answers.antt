use Rattle.std.proofs.Common.{◌≡◌, arith, length, refl, subst}
use Rattle.std.proofs.Math.Seq.{take-length}
use Rattle.il_laws.specs.Reach.{is_in}
use Rattle.plan_pools.specs.Contents.{routine_in}
use Rattle.plan_pools.specs.Passes.{changed_at}
use Rattle.plan_pools.specs.Accepting.{is_accepted, taken_in}
use Rattle.plan_pools.specs.Stopping.{Becomes}
use Rattle.plan_pools.specs.Waving.{SuitsWave}
use Rattle.plan_pools.proofs.Wave.{Done, done_first, done_next, done_stops}
use Rattle.plan_pools.proofs.waving.inline_wave.Goals as goal

pub loop-pid-init : goal.loop-pid-init
loop-pid-init g c =
    done_first g.D.Disk.reach g.D.Disk.honest g.D.Disk.faults c.args.shapes.now (is_accepted c.args.accepted.now) c.args.pids.now c.args.loader.now
    c.requires.rests

pub loop-pid-preserved : goal.loop-pid-preserved
loop-pid-preserved g c =
    done_next g.D.Disk.reach g.D.Disk.honest g.D.Disk.faults c.args.shapes.now (is_accepted c.args.accepted.now) c.args.pids.now c.args.loader.now
    c.loop-pid.loader c.loop-pid.pid-index _ c.requires.differ c.loop-pid-test.true refl c.loop-pid.invariant c.inline_one.new.loader c.in-Ok.ensures.ok

pub returns-in-Err-clause-err : goal.returns-in-Err-clause-err
returns-in-Err-clause-err g c =
    done_stops g.D.Disk.reach g.D.Disk.honest g.D.Disk.faults c.args.shapes.now (is_accepted c.args.accepted.now) c.args.pids.now c.args.loader.now
    c.loop-pid.loader c.loop-pid.pid-index _ c.requires.differ c.loop-pid-test.true refl c.loop-pid.invariant c.inline_one.new.loader c.in-Err.failure
    c.in-Err.ensures.err

pub returns-clause-ok : goal.returns-clause-ok
returns-clause-ok g c =
    let end : c.loop-pid.pid-index ≡ length c.args.pids.now = omega (arith, c.loop-pid.auto.pid-index-end, c.loop-pid-test.false) in
    let old = c.args.loader.now in
    let f = taken_in (is_accepted c.args.accepted.now) (routine_in old) in
    subst
    (λ ps. Becomes g.D.Disk.reach g.D.Disk.honest g.D.Disk.faults
    (SuitsWave c.args.shapes.now (is_accepted c.args.accepted.now) c.args.pids.now (routine_in old))
    (changed_at f (is_in ps) (routine_in old)) old c.loop-pid.loader)
    (take-length c.args.pids.now)
    (subst (λ k. Done g.D.Disk.reach g.D.Disk.honest g.D.Disk.faults c.args.shapes.now (is_accepted c.args.accepted.now) c.args.pids.now old
    c.loop-pid.loader k) end c.loop-pid.invariant)
