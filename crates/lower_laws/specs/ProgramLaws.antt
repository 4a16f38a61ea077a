-- The law of lowered programs.
use Rattle.std.specs.Prelude.{◌≡◌, ◌≢◌, ℕ, suc, ◌+◌, ◌<◌, ◌≤◌, true, List, [], ◌∷◌, Option, Some, None, IsTrue, codes, is_some, length, if◌then◌else◌, ⊤}
use Rattle.std.specs.List.{AllByRecursion}
use Rattle.std.specs.Map.{values_of}
use Rattle.il_core.specs.declared.shape.Shape.TheVariants as shape
use Rattle.il_core.specs.Limits.{max_pids, max_routines}
use Rattle.il_core.specs.Meaning.{il_run}
use Rattle.il_core.specs.Valid.{IsProgram}
use Rattle.sym_tables.specs.declared.symbol.Symbol.{Symbol}
use Rattle.sym_tables.specs.Listing.{shape_of}
use Rattle.sym_tables.specs.Sound.{FitsWords}
use Rattle.sym_tables.specs.Table.{Table, pid_of}
use Rattle.c_typed.specs.declared.function.TypedModule.{TypedModule}
use Rattle.c_typed.specs.Linked.{c90_run}
use Rattle.c_typed.specs.Meaning.{function_at}
use Rattle.c_typed.specs.Trees.{Function}
use Rattle.c_typed.specs.Views.{functions_of}
use Rattle.lower_laws.specs.Bound.{IsBound}
use Rattle.lower_laws.specs.Fits.{FitsFunction}
use Rattle.lower_laws.specs.Programs.{rows_from, lowered_program}

-- The functions of linked modules and the table of their names: the names in each function are bound, each function has
-- a PID of the table, no object has more initial words than words, and `main` is a function.
pub record AreLinked (fs : List Function) (syms : Table) : Type 0 where
  pub bound : (pid : ℕ) (f : Function) → function_at fs pid ≡ Some f → IsBound f
  pub named : (pid : ℕ) (f : Function) → function_at fs pid ≡ Some f → pid < length syms
  pub fits : AllByRecursion FitsWords (values_of syms)
  pub main : ℕ
  pub is_main : pid_of syms (codes "main") ≡ Some main
  pub has_main : IsTrue (is_some (function_at fs main))

-- The lowered program of linked modules does what the modules do, for every profile, every input and every number of
-- turns.
abbrev pub LoweredMeansTheSame : Type 0
LoweredMeansTheSame =
    (modules : List TypedModule) (syms : Table) → AreLinked (functions_of modules) syms →
    (entry : ℕ → ℕ) (count : ℕ → ℕ → ℕ) (input : List ℕ) (turns : ℕ) →
    il_run (lowered_program entry count (functions_of modules) syms) input turns ≡ c90_run modules syms input turns

-- what is known of a name whose function is in the program: an entity with the function's shape
abbrev pub IsEntityOf : Option Function → Symbol → Type 0
IsEntityOf None s = ⊤
IsEntityOf (Some f) s = shape_of s.entity ≡ shape.Routine (length f.params) (is_some f.result)

abbrev pub AreEntities : List Function → ℕ → Table → Type 0
AreEntities fs pid [] = ⊤
AreEntities fs pid (e ∷ es) = IsEntityOf (function_at fs pid) e.1 × AreEntities fs (suc pid) es

-- no two entries have one name
abbrev pub HasNamesOnce : Table → Type 0
HasNamesOnce [] = ⊤
HasNamesOnce (e ∷ es) = AllByRecursion (λ other. other.0 ≢ e.0) es × HasNamesOnce es

-- how many names have functions, with PIDs from this one on
abbrev pub function_count : List Function → ℕ → Table → ℕ
function_count fs pid [] = 0
function_count fs pid (e ∷ es) = (if is_some (function_at fs pid) then 1 else 0) + function_count fs (suc pid) es

-- What validity asks of linked modules beyond that: each function has the shape of its entity and stands among objects and
-- functions that the program has, names are distinct, the limits are kept, and `main` has no parameters and gives a value.
pub record AreFitting (fs : List Function) (syms : Table) : Type 0 where
  pub entities : AreEntities fs 0 syms
  pub functions : (pid : ℕ) (f : Function) → function_at fs pid ≡ Some f → FitsFunction (rows_from fs 0 syms) f
  pub names : HasNamesOnce syms
  pub few : function_count fs 0 syms ≤ max_routines
  pub pids : length syms ≤ max_pids
  pub main : (pid : ℕ) (f : Function) → pid_of syms (codes "main") ≡ Some pid → function_at fs pid ≡ Some f
      → (length f.params ≡ 0) × (is_some f.result ≡ true)

-- The lowered program of such modules is valid, for every profile.
abbrev pub LoweredIsProgram : Type 0
LoweredIsProgram =
    (fs : List Function) (syms : Table) → AreLinked fs syms → AreFitting fs syms →
    (entry : ℕ → ℕ) (count : ℕ → ℕ → ℕ) → IsProgram (lowered_program entry count fs syms)
