use Rattle.plan_pools.specs.Accepting.{is_accepted}
use Rattle.plan_pools.proofs.Wave.{Done}
use Rattle.plan_pools.proofs.waving.inline_wave.Given as goal

abbrev pub invariant-loop-pid : goal.invariant-loop-pid
invariant-loop-pid g l = Done g.D.Disk.reach g.D.Disk.honest g.D.Disk.faults l.shapes (is_accepted l.accepted) l.pids l.fn.loader l.loader l.pid-index
