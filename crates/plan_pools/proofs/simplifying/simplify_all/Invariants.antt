use Rattle.std.proofs.Common.{take}
use Rattle.il_laws.specs.Reach.{is_in}
use Rattle.il_laws.specs.Simplify.{simplify}
use Rattle.plan_pools.specs.Passes.{Changes}
use Rattle.plan_pools.proofs.simplifying.simplify_all.Given as goal

abbrev pub invariant-loop-pid : goal.invariant-loop-pid
invariant-loop-pid g l = Changes g.D.Disk.reach g.D.Disk.honest g.D.Disk.faults simplify (is_in (take l.pid-index l.pids)) l.fn.loader l.loader
