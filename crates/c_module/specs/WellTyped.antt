-- Well-typed modules: the functions of a file with the names behind it, those of the files before it, and the program of files
-- that are accepted.
use Rattle.std.specs.Prelude.{◌≡◌, ℕ, List, Some}
use Rattle.std.specs.List.{AllByRecursion}
use Rattle.il_core.specs.Meaning.{Run}
use Rattle.outside.specs.Told.{Told}
use Rattle.sym_tables.specs.Table.{Table}
use Rattle.c_tree.specs.declared.declaration.Module.{Module}
use Rattle.c_typed.specs.declared.function.TypedModule.{TypedModule}
use Rattle.c_typed.specs.Linked.{c90_run}
use Rattle.c_typed.specs.Trees.{Function}
use Rattle.c_typed.specs.Views.{functions_of}
use Rattle.typed_laws.specs.WellTyped.{IsWellTyped, AreWellTyped}
use Rattle.c_module.specs.Limits.{functions_in}
use Rattle.c_module.specs.Verdict.{IsAccepted, Passes}

-- each function of the module is well typed with the names of the program
abbrev pub IsWellTypedModule : Table → TypedModule → Type 0
IsWellTypedModule syms t = AllByRecursion (IsWellTyped syms) (functions_in t)

-- functions that are well typed with the old names are so with the new ones
abbrev pub StayWellTyped : Table → Table → Type 0
StayWellTyped old new = (fs : List Function) → AllByRecursion (IsWellTyped old) fs → AllByRecursion (IsWellTyped new) fs

-- The files are accepted with these names. Whichever modules they are the texts of, the program of these is well typed, and the
-- meaning of C is never stuck on it: for every input and every number of turns there is a run.
pub record IsWellTypedProgram (tells : List ℕ → Told) (files : List (List ℕ)) (syms : Table) : Type 0 where
  pub passes : Passes tells files syms
  pub typed : (modules : List Module) (ts : List TypedModule) → IsAccepted tells files modules ts syms → AreWellTyped (functions_of ts) syms
  pub runs : (modules : List Module) (ts : List TypedModule) → IsAccepted tells files modules ts syms → (input : List ℕ) (turns : ℕ)
      → (run : Run) × (c90_run ts syms input turns ≡ Some run)
