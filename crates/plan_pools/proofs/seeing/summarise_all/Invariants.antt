use Rattle.std.proofs.Common.{◌≡◌, map, take}
use Rattle.il_core.specs.Valid.{IsProgram}
use Rattle.il_core.specs.declared.program.IlProgram.{IlProgram}
use Rattle.naim_loader.specs.Paged.{IsTrusted}
use Rattle.one_owner.specs.Alone.{IsResting}
use Rattle.plan_laws.specs.Summary.{summary}
use Rattle.plan_pools.specs.Contents.{IsContents}
use Rattle.plan_pools.specs.Printing.{Reads}
use Rattle.plan_pools.proofs.seeing.summarise_all.Given as goal

abbrev pub invariant-loop-pid : goal.invariant-loop-pid
invariant-loop-pid g l = record {
  rests : IsResting l.loader;
  reads : Reads g.D.Disk.reach g.D.Disk.honest g.D.Disk.faults l.fn.loader l.loader;
  graph : (p : IlProgram) → IsTrusted g.D.Disk.reach g.D.Disk.honest l.fn.loader → IsProgram p → IsContents l.fn.loader p
      → l.pids ≡ map (λ r. r.pid) p.routines → l.graph ≡ map summary (take l.pid-index p.routines);
}
