use Rattle.std.proofs.Common.{take}
use Rattle.plan_pools.specs.Passes.{Drops}
use Rattle.plan_pools.proofs.dropping.drop_all.Given as goal

abbrev pub invariant-loop-pid : goal.invariant-loop-pid
invariant-loop-pid g l = Drops g.D.Disk.faults (take l.pid-index l.pids) l.fn.loader l.loader
