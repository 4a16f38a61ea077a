-- The law of valid routines.
use Rattle.std.specs.Prelude.{ℕ, List}
use Rattle.il_core.specs.declared.shape.ShapeRow.{ShapeRow}
use Rattle.il_core.specs.Valid.{IsValid}
use Rattle.c_typed.specs.Trees.{Function}
use Rattle.lower_laws.specs.Bound.{IsBound}
use Rattle.lower_laws.specs.Fits.{FitsFunction}
use Rattle.lower_laws.specs.Functions.{lowered}

-- The routine of a function whose names are bound and stand for what the program has is valid, with any counts.
abbrev pub LoweredIsValid : Type 0
LoweredIsValid =
    (rows : List ShapeRow) (f : Function) → IsBound f → FitsFunction rows f →
    (entry : ℕ) (count : ℕ → ℕ) → IsValid rows (lowered entry count f)
