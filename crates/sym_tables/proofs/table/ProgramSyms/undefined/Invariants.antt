use Rattle.std.proofs.Common.{take}
use Rattle.std.specs.List.{AllByRecursion}
use Rattle.std.specs.Map.{values_of}
use Rattle.sym_tables.proofs.Least.{IsClosed}
use Rattle.sym_tables.proofs.table.ProgramSyms.undefined.Given as goal

abbrev pub invariant-loop-at : goal.invariant-loop-at
invariant-loop-at l = AllByRecursion IsClosed (take l.at (values_of l.self-inside.symbols.entries))
