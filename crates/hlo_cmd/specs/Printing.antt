-- A program's text that is put out in pieces.
use Rattle.std.specs.Prelude.{◌≡◌, ℕ, true, List, ⊤}
use Rattle.std.specs.Option.{is_some}
use Rattle.il_core.specs.Program.{found}
use Rattle.il_core.specs.Routine.{RoutineParts}
use Rattle.il_core.specs.declared.shape.ShapeRow.{ShapeRow}
use Rattle.outside.specs.Faults.{Rose}
use Rattle.hlo_cmd.specs.declared.print.PrintFault.{PrintFault}
use Rattle.hlo_cmd.specs.declared.print.PrintFault.TheVariants.{Output, Memory}

-- the routine's PID has a row
abbrev pub HasRow : List ShapeRow → RoutineParts → Type 0
HasRow rows r = is_some (found (λ row. row.pid) r.pid rows) ≡ true

-- a fault of the sink comes only where its count rose
abbrev pub IsPrintCause : PrintFault → ℕ → ℕ → Type 0
IsPrintCause Output before now = Rose before now
IsPrintCause Memory before now = ⊤
