use Rattle.std.proofs.Common.{◌≡◌, ◌<◌, ◌≤◌, ◌+◌, suc, arith}
use Rattle.plan_driver.proofs.Going.{runs_all, runs_cost, runs_end, runs_next, runs_none}
use Rattle.plan_driver.proofs.running.run_passes.Goals as goal

pub loop-pass-init : goal.loop-pass-init
loop-pass-init g c =
    runs_none g.D.Disk.reach g.D.Disk.honest g.D.Disk.faults c.args.names.now c.args.main c.args.cost c.args.budget c.args.passes c.args.loader.now
    c.args.progress c.args.cost c.requires.ready

pub one_pass-requires : goal.one_pass-requires
one_pass-requires g c = record { ready = c.loop-pass.invariant.ready }

pub loop-pass-preserved : goal.loop-pass-preserved
loop-pass-preserved g c =
    let k = c.loop-pass.pass in
    let less : k < c.args.passes = omega (arith, c.loop-pass-test.true) in
    let more : k + 1 ≡ suc k = omega arith in
    runs_next g.D.Disk.reach g.D.Disk.honest g.D.Disk.faults c.args.names.now c.args.main c.args.cost c.args.budget c.args.passes c.args.loader.now
    c.args.progress k c.loop-pass.loader c.loop-pass.passed.progress c.loop-pass.passed.cost c.loop-pass.invariant less c.requires.some (k + 1) more
    c.limit_of-limit.result c.limit_of-limit.ensures c.one_pass.new.loader c.in-Ok.next.progress c.in-Ok.next.cost c.in-Ok.ensures.made c.in-Ok.ensures.cost

pub returns-in-Err-clause-err : goal.returns-in-Err-clause-err
returns-in-Err-clause-err g c =
    let k = c.loop-pass.pass in
    let less : k < c.args.passes = omega (arith, c.loop-pass-test.true) in
    let more : k + 1 ≡ suc k = omega arith in
    runs_end g.D.Disk.reach g.D.Disk.honest g.D.Disk.faults c.args.names.now c.args.main c.args.cost c.args.budget c.args.passes c.args.loader.now
    c.args.progress k c.loop-pass.loader c.loop-pass.passed.progress c.loop-pass.passed.cost c.loop-pass.invariant less c.requires.some (k + 1) more
    c.limit_of-limit.result c.limit_of-limit.ensures c.one_pass.new.loader c.in-Err.failure c.in-Err.ensures.err

pub returns-clause-made : goal.returns-clause-made
returns-clause-made g c =
    let all : c.args.passes ≤ c.loop-pass.pass = omega (arith, c.loop-pass-test.false) in
    runs_all g.D.Disk.reach g.D.Disk.honest g.D.Disk.faults c.args.names.now c.args.main c.args.cost c.args.budget c.args.passes c.args.loader.now
    c.args.progress c.loop-pass.pass c.loop-pass.loader c.loop-pass.passed.progress c.loop-pass.passed.cost c.loop-pass.invariant all

pub returns-clause-cost : goal.returns-clause-cost
returns-clause-cost g c =
    let all : c.args.passes ≤ c.loop-pass.pass = omega (arith, c.loop-pass-test.false) in
    runs_cost g.D.Disk.reach g.D.Disk.honest g.D.Disk.faults c.args.names.now c.args.main c.args.cost c.args.budget c.args.passes c.args.loader.now
    c.args.progress c.loop-pass.pass c.loop-pass.loader c.loop-pass.passed.progress c.loop-pass.passed.cost c.loop-pass.invariant all
