-- The laws of optimised programs.
use Rattle.std.specs.Prelude.{◌≡◌, ℕ, ◌+◌, ◌*◌, ◌≤◌, List}
use Rattle.std.specs.List.{AllByRecursion}
use Rattle.std.specs.Map.{keys_of}
use Rattle.il_core.specs.declared.program.IlProgram.{IlProgram}
use Rattle.il_core.specs.Meaning.{il_run}
use Rattle.il_core.specs.Size.{cost}
use Rattle.il_core.specs.Valid.{IsProgram}
use Rattle.sym_tables.specs.Table.{Table}
use Rattle.c_typed.specs.declared.function.TypedModule.{TypedModule}
use Rattle.c_typed.specs.Linked.{c90_run}
use Rattle.c_typed.specs.Views.{functions_of}
use Rattle.lower_laws.specs.ProgramLaws.{AreLinked, AreFitting}
use Rattle.lower_laws.specs.Programs.{lowered_program}
use Rattle.plan_laws.specs.Plan.{plan, final}

-- a name without a `$`, which clones have in theirs
abbrev pub IsNameOfC : List ℕ → Type 0
IsNameOfC name = AllByRecursion (λ c. c ≡ 36 → ⊥) name

-- Linked modules as the optimiser takes them, with the table of their names.
pub record AreReady (modules : List TypedModule) (syms : Table) : Type 0 where
  pub linked : AreLinked (functions_of modules) syms
  pub fitting : AreFitting (functions_of modules) syms
  pub names : AllByRecursion IsNameOfC (keys_of syms)

-- the program that they are lowered to, with a profile's counts of entries and sites by PID
abbrev pub first_program : (ℕ → ℕ) → (ℕ → ℕ → ℕ) → List TypedModule → Table → IlProgram
first_program entry count modules syms = lowered_program entry count (functions_of modules) syms

-- a valid program with the run of the modules on every input with every number of turns
pub record RunsAs (modules : List TypedModule) (syms : Table) (p : IlProgram) : Type 0 where
  pub valid : IsProgram p
  pub run : (input : List ℕ) (turns : ℕ) → il_run p input turns ≡ c90_run modules syms input turns

-- Each program of the plan runs as the modules do, and so does the last one.
abbrev pub OptimisedMeansTheSame : Type 0
OptimisedMeansTheSame =
    (modules : List TypedModule) (syms : Table) → AreReady modules syms →
    (entry : ℕ → ℕ) (count : ℕ → ℕ → ℕ) (budget passes : ℕ) →
    AllByRecursion (RunsAs modules syms) (plan (first_program entry count modules syms) budget passes)
    × RunsAs modules syms (final (first_program entry count modules syms) budget passes)

-- The last program costs at most so many percent more than the first.
abbrev pub OptimisedStaysInBudget : Type 0
OptimisedStaysInBudget =
    (modules : List TypedModule) (syms : Table) → AreReady modules syms →
    (entry : ℕ → ℕ) (count : ℕ → ℕ → ℕ) (budget passes : ℕ) →
    let p = first_program entry count modules syms in
    100 * cost (final p budget passes).routines ≤ cost p.routines * (100 + budget)
