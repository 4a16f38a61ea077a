use Rattle.std.proofs.Common.{◌≤◌, take}
use Rattle.std.specs.Io.KnownBytes.{Appends}
use Rattle.naim_loader.specs.Paged.{IsTrusted}
use Rattle.one_owner.specs.Alone.{IsResting}
use Rattle.plan_pools.specs.Contents.{routine_in, rows_text}
use Rattle.plan_pools.specs.Printing.{Reads}
use Rattle.plan_pools.proofs.printing.print_rows.Given as goal

abbrev pub invariant-loop-row : goal.invariant-loop-row
invariant-loop-row g l = record {
  rests : IsResting l.loader;
  reads : Reads g.D.Disk.reach g.D.Disk.honest g.D.Disk.faults l.fn.loader l.loader;
  taken : IsTrusted g.D.Disk.reach g.D.Disk.honest l.fn.loader
      → Appends (g.O.Sink.taken l.fn.out) (g.O.Sink.taken l.out) (rows_text (routine_in l.fn.loader) (take l.row-index l.rows));
  later : g.O.Sink.faults l.fn.out ≤ g.O.Sink.faults l.out;
}
