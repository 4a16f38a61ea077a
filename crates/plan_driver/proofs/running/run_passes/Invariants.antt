use Rattle.plan_driver.proofs.Going.{Runs}
use Rattle.plan_driver.proofs.running.run_passes.Given as goal

abbrev pub invariant-loop-pass : goal.invariant-loop-pass
invariant-loop-pass g l =
    Runs g.D.Disk.reach g.D.Disk.honest g.D.Disk.faults l.fn.names l.fn.main l.fn.cost l.fn.budget l.fn.passes l.fn.loader l.fn.progress
    l.pass l.loader l.passed.progress l.passed.cost
