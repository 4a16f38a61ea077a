-- A program whose routines lie in pools.
use Rattle.std.specs.Prelude.{◌≡◌, ℕ, Bool, true, false, List, [], ◌∷◌, IsSome, Option, Some, None, if◌then◌else◌, flat_map, map, option_map}
use Rattle.std.specs.List.{AllByRecursion}
use Rattle.il_core.specs.Object.{ObjectParts}
use Rattle.il_core.specs.Program.{routine_at}
use Rattle.il_core.specs.Routine.{RoutineParts}
use Rattle.il_core.specs.Text.{routine_text}
use Rattle.il_core.specs.declared.program.IlProgram.{IlProgram}
use Rattle.il_core.specs.declared.shape.Shape.{Shape}
use Rattle.il_core.specs.declared.shape.Shape.TheVariants as shape
use Rattle.il_core.specs.declared.shape.ShapeRow.{ShapeRow}
use Rattle.compact_form.specs.declared.body.RoutineBody.{RoutineBody}
use Rattle.naim_loader.specs.Paged.{Paged, content_at, kept_at}

-- the routine that the pool p has
abbrev pub routine_in : {B D : Type 0} → Paged RoutineBody B D → ℕ → Option RoutineParts
routine_in l p = option_map (λ b. b.routine) (content_at l p)

abbrev pub is_routine : Shape → Bool
is_routine (shape.Routine params value) = true
is_routine (shape.Object words) = false

-- the PIDs of the rows that are routines, in order
abbrev pub routine_pids : List ShapeRow → List ℕ
routine_pids [] = []
routine_pids (row ∷ rows) = if is_routine row.shape then row.pid ∷ routine_pids rows else routine_pids rows

-- each of those has a pool
abbrev pub HavePools : {B D : Type 0} → Paged RoutineBody B D → List ShapeRow → Type 0
HavePools l rows = AllByRecursion (λ p. IsSome (kept_at l p)) (routine_pids rows)

-- The program has these shapes and objects; its routines are those of the rows, in order, and each lies in the pool of its PID.
pub record HoldsProgram {B D : Type 0} (l : Paged RoutineBody B D) (rows : List ShapeRow) (os : List ObjectParts) (p : IlProgram) : Type 0 where
  pub shapes : p.shapes ≡ rows
  pub objects : p.objects ≡ os
  pub pids : map (λ r. r.pid) p.routines ≡ routine_pids rows
  pub routines : AllByRecursion (λ r. routine_in l r.pid ≡ Some r) p.routines

-- the text of a routine, if there is one
abbrev pub text_if : List ℕ → Option RoutineParts → List ℕ
text_if name None = []
text_if name (Some r) = routine_text name r

-- the text of the routine of a row, if the row is one
abbrev pub row_text : (ℕ → Option RoutineParts) → ShapeRow → List ℕ
row_text at row = if is_routine row.shape then text_if row.name (at row.pid) else []

-- the texts of the routines of the rows, in order
abbrev pub rows_text : (ℕ → Option RoutineParts) → List ShapeRow → List ℕ
rows_text at rows = flat_map (row_text at) rows

-- the pools have the routines of the program, each under its PID, and no others
pub record IsContents {B D : Type 0} (l : Paged RoutineBody B D) (p : IlProgram) : Type 0 where
  pub by : (q : ℕ) → routine_in l q ≡ routine_at p.routines q
