use Rattle.std.proofs.Common.{◌≡◌, arith, length, refl, subst, take}
use Rattle.std.proofs.Math.Seq.{take-length}
use Rattle.il_laws.specs.Reach.{is_in}
use Rattle.il_laws.specs.Simplify.{simplify}
use Rattle.plan_pools.specs.Passes.{Changes}
use Rattle.plan_pools.proofs.Walking.{changes_itself, changes_next, present_next, stops_next}
use Rattle.plan_pools.proofs.simplifying.simplify_all.Goals as goal

pub loop-pid-init : goal.loop-pid-init
loop-pid-init g c = changes_itself g.D.Disk.reach g.D.Disk.honest g.D.Disk.faults simplify c.args.loader.now c.requires.rests

pub simplify_one-requires-clause-present : goal.simplify_one-requires-clause-present
simplify_one-requires-clause-present g c =
    present_next g.D.Disk.reach g.D.Disk.honest g.D.Disk.faults simplify c.args.loader.now c.loop-pid.loader c.args.pids.now c.loop-pid.pid-index _
    c.requires.differ c.loop-pid-test.true refl
    c.loop-pid.invariant c.requires.present

pub loop-pid-preserved : goal.loop-pid-preserved
loop-pid-preserved g c =
    changes_next g.D.Disk.reach g.D.Disk.honest g.D.Disk.faults simplify c.args.loader.now c.loop-pid.loader c.args.pids.now c.loop-pid.pid-index _
    c.requires.differ c.loop-pid-test.true refl
    c.loop-pid.invariant c.simplify_one.new.loader c.in-Ok.ensures.ok

pub returns-in-Err-clause-err : goal.returns-in-Err-clause-err
returns-in-Err-clause-err g c =
    stops_next g.D.Disk.reach g.D.Disk.honest g.D.Disk.faults simplify c.args.loader.now c.loop-pid.loader c.args.pids.now c.loop-pid.pid-index _
    c.requires.differ c.loop-pid-test.true refl
    c.loop-pid.invariant c.simplify_one.new.loader c.args.shapes.now c.in-Err.failure c.in-Err.ensures.err

pub returns-clause-ok : goal.returns-clause-ok
returns-clause-ok g c =
    let end : c.loop-pid.pid-index ≡ length c.args.pids.now = omega (arith, c.loop-pid.auto.pid-index-end, c.loop-pid-test.false) in
    subst (λ ps. Changes g.D.Disk.reach g.D.Disk.honest g.D.Disk.faults simplify (is_in ps) c.args.loader.now c.loop-pid.loader) (take-length c.args.pids.now)
    (subst (λ k. Changes g.D.Disk.reach g.D.Disk.honest g.D.Disk.faults simplify
    (is_in (take k c.args.pids.now)) c.args.loader.now c.loop-pid.loader) end c.loop-pid.invariant)
