-- Which routines have a flaw, and where.
use Rattle.std.specs.Prelude.{ℕ, ◌≡◌, ◌+◌, Bool, false, ◌==◌, ◌&&◌, List, ◌∷◌, ◌++◌, Some, length, codes, sum_by}
use Rattle.std.specs.List.{AllByRecursion}
use Rattle.std.specs.Str.{bytes_eq}
use Rattle.il_core.specs.declared.shape.ShapeRow.{ShapeRow}
use Rattle.il_core.specs.declared.shape.Shape.{Shape}
use Rattle.il_core.specs.declared.shape.Shape.TheVariants as shape
use Rattle.il_core.specs.Routine.{RoutineParts}
use Rattle.il_core.specs.Size.{size}
use Rattle.il_core.specs.Valid.{IsValid}
use Rattle.il_check.specs.declared.flaw.Flaw.{Flaw}
use Rattle.il_check.specs.Conditions.{first_broken, conditions}

-- the lines of a routine: its first and its last, a label for each block, and what stands in them
abbrev pub line_count : RoutineParts → ℕ
line_count r = length r.blocks + size r + 2

abbrev pub is_main_shape : Shape → Bool
is_main_shape (shape.Object words) = false
is_main_shape (shape.Routine params value) = (params == 0) && value

-- the routine `main`, without parameters and with a value
abbrev pub is_main : ShapeRow → Bool
is_main row = bytes_eq row.name (codes "main") && is_main_shape row.shape

-- a routine behind valid ones has this flaw, where the first of them begins at a line
pub record IsFirstFlawed (rows : List ShapeRow) (rs : List RoutineParts) (first at : ℕ) (f : Flaw) : Type 0 where
  pub before : List RoutineParts
  pub routine : RoutineParts
  pub behind : List RoutineParts
  pub parts : rs ≡ before ++ routine ∷ behind
  pub valid : AllByRecursion (IsValid rows) before
  pub flaw : Some f ≡ first_broken (conditions rows routine)
  pub line : at ≡ first + sum_by line_count before
