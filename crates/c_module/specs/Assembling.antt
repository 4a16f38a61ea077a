-- The routines of files that are accepted, and how they are put by PID.
use Rattle.std.specs.Prelude.{◌≡◌, ℕ, zero, suc, List, [], ◌∷◌, map, Option, Some, None}
use Rattle.il_core.specs.Program.{routine_at}
use Rattle.il_core.specs.Routine.{RoutineParts}
use Rattle.outside.specs.Told.{Told}
use Rattle.profile.specs.Counts.{Counts}
use Rattle.sym_tables.specs.Table.{Table}
use Rattle.c_tree.specs.declared.declaration.Module.{Module}
use Rattle.c_typed.specs.declared.function.TypedModule.{TypedModule}
use Rattle.c_typed.specs.Views.{functions_of}
use Rattle.c_lower.specs.Lowering.{routine_of}
use Rattle.c_module.specs.Verdict.{IsAccepted}

-- the routines of files that are accepted, in the order of their functions
pub record AreRoutinesOf (counts : Counts) (tells : List ℕ → Told) (files : List (List ℕ)) (rs : List RoutineParts) (syms : Table) : Type 0 where
  pub modules : List Module
  pub ts : List TypedModule
  pub accepted : IsAccepted tells files modules ts syms
  pub are : rs ≡ map (routine_of syms counts) (functions_of ts)

-- for each of so many PIDs from this one on the routine that has it
abbrev pub slots : List RoutineParts → ℕ → ℕ → List (Option RoutineParts)
slots rs pid zero = []
slots rs pid (suc n) = routine_at rs pid ∷ slots rs (suc pid) n

-- the routines that are there
abbrev pub present : List (Option RoutineParts) → List RoutineParts
present [] = []
present (None ∷ xs) = present xs
present (Some r ∷ xs) = r ∷ present xs

-- so many PIDs' routines, by PID
abbrev pub by_pid : List RoutineParts → ℕ → List RoutineParts
by_pid rs names = present (slots rs 0 names)
