-- How the routines of a module are made, function by function.
use Rattle.std.specs.Prelude.{◌≡◌, ℕ, ◌<◌, ◌++◌, List, length, ⊤}
use Rattle.il_core.specs.Limits.{IsWithinLimits}
use Rattle.il_core.specs.Routine.{RoutineParts}
use Rattle.outside.specs.Told.{Told}
use Rattle.profile.specs.Counts.{Counts}
use Rattle.sym_tables.specs.Table.{Table}
use Rattle.c_typed.specs.Trees.{Function}
use Rattle.c_lower.specs.Lowering.{routine_of}
use Rattle.lower_laws.specs.Bound.{IsBound}
use Rattle.c_module.specs.Files.{HoldsLowered}
use Rattle.c_module.specs.Limits.{KeepsLimits, IsFirstTooLarge}
use Rattle.c_module.specs.declared.fault.FileFault.{FileFault}
use Rattle.c_module.specs.declared.fault.FileFault.TheVariants.{NoModule, Memory}
use Rattle.c_module.specs.declared.fault.ModuleFault.TheVariants.{TooLarge}

-- what lowering asks of a function: its PID is in the table, and its names are bound
pub record IsReady (syms : Table) (f : Function) : Type 0 where
  pub live : f.pid < length syms
  pub bound : IsBound f

-- counts are no matter of limits: the routine of a function keeps them with the counts of one profile where it does with
-- those of another
abbrev pub CountsAreNoLimits : Type 0
CountsAreNoLimits =
    (syms : Table) (counts : Counts) (f : Function)
    → (KeepsLimits f → IsWithinLimits (routine_of syms counts f)) × (IsWithinLimits (routine_of syms counts f) → KeepsLimits f)

-- why lowering functions in order ended early: the first whose routine passes a limit, or memory ran out
abbrev pub EndsLowering : List Function → FileFault → Type 0
EndsLowering fs (NoModule (TooLarge pid)) = IsFirstTooLarge fs pid
EndsLowering fs Memory = ⊤
EndsLowering fs _ = ⊥

-- behind some routines stand those of the file with this number
pub record AddsLowered (number : ℕ) (old : Table) (counts : Counts) (told : Told) (before after : List RoutineParts) (new : Table) : Type 0 where
  pub routines : List RoutineParts
  pub lowered : HoldsLowered number old counts told routines new
  pub added : after ≡ before ++ routines
