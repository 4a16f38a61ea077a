use Rattle.std.proofs.Common.{take}
use Rattle.il_laws.specs.Reach.{is_in}
use Rattle.plan_pools.specs.Passes.{Changes}
use Rattle.plan_pools.specs.Retargeting.{callers_of, moved}
use Rattle.plan_pools.proofs.retargeting.retarget_program.Given as goal

abbrev pub invariant-loop-entry : goal.invariant-loop-entry
invariant-loop-entry g l = Changes g.D.Disk.reach g.D.Disk.honest g.D.Disk.faults (moved l.callers) (is_in (take l.entry-index (callers_of l.callers)))
    l.fn.loader l.loader
