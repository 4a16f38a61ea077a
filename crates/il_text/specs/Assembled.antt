-- The program of objects and routines with their names.
use Rattle.std.specs.Prelude.{ℕ, ◌≡◌, List, [], ◌++◌, Option, Some, None, map}
use Rattle.std.specs.List.Sorted.{IsPermutation}
use Rattle.il_core.specs.declared.shape.ShapeRow.{ShapeRow}
use Rattle.il_core.specs.declared.shape.Shape.TheVariants as shape
use Rattle.il_core.specs.declared.program.IlProgram.{IlProgram}
use Rattle.il_core.specs.Shapes.{IsRising}
use Rattle.il_text.specs.declared.line.NamedObject.{NamedObject}
use Rattle.il_text.specs.declared.line.NamedRoutine.{NamedRoutine}
use Rattle.il_text.specs.Order.{object_items, routine_items, first_misplaced}

abbrev pub object_row : NamedObject → ShapeRow
object_row o = record { pid = o.object.pid; name = o.name; shape = shape.Object o.object.words }

abbrev pub routine_row : NamedRoutine → ShapeRow
routine_row r = record { pid = r.routine.pid; name = r.name; shape = shape.Routine r.routine.params r.routine.value }

abbrev pub all_rows : List NamedObject → List NamedRoutine → List ShapeRow
all_rows os rs = map object_row os ++ map routine_row rs

-- what stands behind a misplaced object isn't looked at
abbrev pub or_else : Option ℕ → Option ℕ → Option ℕ
or_else None o = o
or_else (Some k) o = Some k

-- the first object or routine that is out of order, if there is one
abbrev pub first_out_of_order : List NamedObject → List NamedRoutine → Option ℕ
first_out_of_order os rs = or_else (first_misplaced [] None (object_items os)) (first_misplaced (object_items os) None (routine_items rs))

-- these objects and routines, with their rows in order
pub record HasPartsOf (os : List NamedObject) (rs : List NamedRoutine) (p : IlProgram) : Type 0 where
  pub objects : p.objects ≡ map (λ o. o.object) os
  pub routines : p.routines ≡ map (λ r. r.routine) rs
  pub rows : IsPermutation (all_rows os rs) p.shapes
  pub rising : IsRising (λ row. row.pid) p.shapes
