-- Programs and texts that are put out.
use Rattle.std.proofs.Common.{◌≡◌, ◌≤◌, ℕ, true, List, [], ◌∷◌, Option, Some, None, refl, ap, arith}
use Rattle.std.specs.Option.{is_some}
use Rattle.std.specs.List.{AllByRecursion}
use Rattle.il_core.specs.declared.shape.Shape.{Shape}
use Rattle.il_core.specs.declared.shape.Shape.TheVariants as shape
use Rattle.il_core.specs.declared.shape.ShapeRow.{ShapeRow}
use Rattle.il_core.specs.Program.{found, name_at, name_of_row, shape_at, shape_of_row}
use Rattle.il_core.specs.Routine.{RoutineParts}
use Rattle.hlo_cmd.specs.Printing.{HasRow, IsPrintCause}
use Rattle.hlo_cmd.specs.declared.print.PrintFault.{PrintFault}
use Rattle.hlo_cmd.specs.declared.print.PrintFault.TheVariants.{Output, Memory}

-- a PID that has a shape has a row
has_row : (o : Option ShapeRow) (s : Shape) → shape_of_row o ≡ Some s → is_some o ≡ true
has_row None s e = cc
has_row (Some row) s e = refl

-- so has each routine of a valid program
pub have_rows : (rows : List ShapeRow) (rs : List RoutineParts) → AllByRecursion (λ r. shape_at rows r.pid ≡ Some (shape.Routine r.params r.value)) rs
    → AllByRecursion (HasRow rows) rs
have_rows rows [] h = tt
have_rows rows (r ∷ rs) (h, hs) = (has_row (found (λ row. row.pid) r.pid rows) (shape.Routine r.params r.value) h, have_rows rows rs hs)

-- the name of a PID is that of its row
pub named : (rows : List ShapeRow) (pid : ℕ) (row : ShapeRow) → Some row ≡ found (λ r. r.pid) pid rows → row.name ≡ name_at rows pid
named rows pid row e = ap name_of_row e

-- a fault's cause since an earlier moment
pub cause_since : (f : PrintFault) (a b c : ℕ) → a ≤ b → IsPrintCause f b c → IsPrintCause f a c
cause_since Output a b c low h = omega (arith, low, h)
cause_since Memory a b c low h = tt
