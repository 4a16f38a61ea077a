use Rattle.std.proofs.Common.{take}
use Rattle.std.specs.List.{AllByRecursion}
use Rattle.std.specs.Map.{keys_of}
use Rattle.sym_tables.proofs.Finds.{IsOther}
use Rattle.sym_tables.proofs.table.ProgramSyms.find.Given as goal

abbrev pub invariant-loop-at : goal.invariant-loop-at
invariant-loop-at l = AllByRecursion (IsOther l.bytes) (take l.at (keys_of l.self-inside.symbols.entries))
