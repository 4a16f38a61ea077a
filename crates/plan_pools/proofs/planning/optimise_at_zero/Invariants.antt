use Rattle.std.proofs.Common.{◌<◌}
use Rattle.il_core.specs.declared.program.IlProgram.{IlProgram}
use Rattle.plan_laws.specs.Plan.{final}
use Rattle.plan_pools.specs.Planning.{Holds, IsCost}
use Rattle.plan_pools.proofs.Repeated.{Makes}
use Rattle.plan_pools.proofs.planning.optimise_at_zero.Given as goal

abbrev pub invariant-passes : goal.invariant-passes
invariant-passes g l = record {
  made : Makes g.D.Disk.reach g.D.Disk.honest g.D.Disk.faults l.fn.shapes l.fn.main l.fn.loader l.counter l.loader l.planned.shapes;
  cost : 0 < l.counter → (p : IlProgram) → Holds g.D.Disk.reach g.D.Disk.honest g.D.Disk.faults l.fn.loader l.fn.shapes l.fn.main p
      → IsCost l.planned.cost (final p 0 l.counter);
}
