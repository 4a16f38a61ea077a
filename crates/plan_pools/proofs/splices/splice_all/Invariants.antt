use Rattle.std.specs.Vec.{vec_len}
use Rattle.plan_pools.proofs.Splicing.{Splices}
use Rattle.plan_pools.proofs.splices.splice_all.Given as goal

abbrev pub invariant-loop-called : goal.invariant-loop-called
invariant-loop-called g l =
    Splices g.D.Disk.reach g.D.Disk.honest g.D.Disk.faults l.shapes l.fn.loader l.loader l.fn.caller l.fn.sites.items l.routine l.left.items

abbrev pub decreases-loop-called : goal.decreases-loop-called
decreases-loop-called g l = vec_len l.left
