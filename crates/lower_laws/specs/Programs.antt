-- The lowered program of linked modules: every defined function and every defined object, tentative ones included, by
-- PID; its shapes are those of its own objects and routines.
use Rattle.std.specs.Prelude.{ℕ, suc, ◌||◌, List, [], ◌∷◌, ◌++◌, Option, Some, None, is_some, if◌then◌else◌}
use Rattle.il_core.specs.declared.program.IlProgram.{IlProgram}
use Rattle.il_core.specs.declared.shape.ShapeRow.{ShapeRow}
use Rattle.il_core.specs.Routine.{RoutineParts}
use Rattle.sym_tables.specs.declared.symbol.Symbol.{Symbol}
use Rattle.sym_tables.specs.Listing.{shape_of, is_object, objects}
use Rattle.sym_tables.specs.Table.{Table}
use Rattle.c_typed.specs.Meaning.{function_at}
use Rattle.c_typed.specs.Trees.{Function}
use Rattle.lower_laws.specs.Functions.{lowered}

-- the routine of a function, if there is one, with the profile's counts of its program name
abbrev pub routines_at : (ℕ → ℕ) → (ℕ → ℕ → ℕ) → Option Function → List RoutineParts
routines_at entry count None = []
routines_at entry count (Some f) = lowered (entry f.pid) (count f.pid) f ∷ []

-- what each name of a table gives, with PIDs from this one on
abbrev pub by_pid : {X : Type 0} → (ℕ → List ℕ → Symbol → List X) → ℕ → Table → List X
by_pid pick pid [] = []
by_pid pick pid (e ∷ es) = pick pid e.0 e.1 ++ by_pid pick (suc pid) es

-- the routines of the names that have functions
abbrev pub routines_from : (ℕ → ℕ) → (ℕ → ℕ → ℕ) → List Function → ℕ → Table → List RoutineParts
routines_from entry count fs pid syms = by_pid (λ n name s. routines_at entry count (function_at fs n)) pid syms

-- the row of a name that stands for a function or an object of the program
abbrev pub rows_at : List Function → ℕ → List ℕ → Symbol → List ShapeRow
rows_at fs pid name s =
    if is_some (function_at fs pid) || is_object s then record { pid = pid; name = name; shape = shape_of s.entity } ∷ []
    else []

abbrev pub rows_from : List Function → ℕ → Table → List ShapeRow
rows_from fs pid syms = by_pid (rows_at fs) pid syms

-- the program of functions and the table of their names, with the profile's counts of entries and sites by PID
abbrev pub lowered_program : (ℕ → ℕ) → (ℕ → ℕ → ℕ) → List Function → Table → IlProgram
lowered_program entry count fs syms = record {
  shapes = rows_from fs 0 syms;
  objects = objects syms;
  routines = routines_from entry count fs 0 syms;
}
