-- Functions whose routines keep the limits of the language, and modules that are made of such functions.
use Rattle.std.specs.Prelude.{◌≡◌, ℕ, List, [], ◌∷◌, ◌++◌, map}
use Rattle.std.specs.List.{AllByRecursion}
use Rattle.il_core.specs.Limits.{IsWithinLimits}
use Rattle.sym_tables.specs.Table.{Table}
use Rattle.c_tree.specs.declared.declaration.Module.{Module}
use Rattle.c_typed.specs.declared.function.TypedModule.{TypedModule}
use Rattle.c_typed.specs.Trees.{Function}
use Rattle.c_typed.specs.Views.{function_of, functions_of}
use Rattle.lower_laws.specs.Functions.{lowered}
use Rattle.program_laws.specs.Typed.{AreTypedAs}

-- The routine of a function keeps the limits of the language. Counts are no matter of limits, so those of the flat profile
-- serve for every profile.
unfoldable pub KeepsLimits : Function → Type 0
KeepsLimits f = IsWithinLimits (lowered 1 (λ site. 1) f)

-- the functions of a module, in its order
abbrev pub functions_in : TypedModule → List Function
functions_in t = map function_of t.functions

-- the first of some functions whose routine passes a limit has this PID
pub record IsFirstTooLarge (fs : List Function) (pid : ℕ) : Type 0 where
  pub earlier : List Function
  pub large : Function
  pub later : List Function
  pub whole : fs ≡ earlier ++ large ∷ later
  pub kept : AllByRecursion KeepsLimits earlier
  pub past : KeepsLimits large → ⊥
  pub is : pid ≡ large.pid

-- The modules follow the rules of types and linkage one after another, from no names to these, are typed so, and the
-- routine of each of their functions keeps the limits of the language.
pub record AreWellFormed (modules : List Module) (ts : List TypedModule) (syms : Table) : Type 0 where
  pub typed : AreTypedAs 1 [] modules ts syms
  pub limits : AllByRecursion KeepsLimits (functions_of ts)
