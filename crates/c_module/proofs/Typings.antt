-- The module of a file is well typed, and so is the program of files that are accepted.
use Rattle.std.proofs.Common.{ℕ, List, [], ◌∷◌, Result, Ok, Err, sym, subst}
use Rattle.std.specs.Prelude.{IfOk, OnOk}
use Rattle.std.specs.List.{AllByRecursion}
use Rattle.std.proofs.lemmas.List.{append-nil}
use Rattle.outside.specs.Told.{Told}
use Rattle.program_laws.specs.Growing.{Grows}
use Rattle.program_laws.specs.Laws.{AreLinking, LinkingModulesRun}
use Rattle.sym_tables.specs.Table.{Table}
use Rattle.c_tree.specs.declared.declaration.Module.{Module}
use Rattle.c_typed.specs.declared.function.TypedModule.{TypedModule}
use Rattle.typed_laws.specs.Laws.{TypedModulesAreWellTyped, TypedProgramsAreWellTyped, WellTypedStays}
use Rattle.typed_laws.specs.WellTyped.{IsWellTyped}
use Rattle.c_module.specs.Files.{HoldsTyped}
use Rattle.c_module.specs.Limits.{functions_in}
use Rattle.c_module.specs.Verdict.{IsAccepted, Passes}
use Rattle.c_module.specs.WellTyped.{IsWellTypedModule, IsWellTypedProgram, StayWellTyped}

-- ## One file

module _ (number : ℕ) (old : Table) (told : Told) (t : TypedModule) (new : Table) (held : HoldsTyped number old told t new) (law : TypedModulesAreWellTyped)
  where
    pub well_typed : IsWellTypedModule new t
    well_typed =
        let behind = (law number held.found old t held.here held.typed).0 in
        subst (λ s. IsWellTypedModule s t) (sym held.names)
        (subst (AllByRecursion (IsWellTyped held.here.syms)) (append-nil (functions_in t)) behind)

    pub grows : Grows old new
    grows = subst (Grows old) (sym held.names) (law number held.found old t held.here held.typed).1

    pub stay_well_typed : WellTypedStays → StayWellTyped old new
    stay_well_typed stays [] before = tt
    stay_well_typed stays (f ∷ fs) before = (stays old new grows f before.0, stay_well_typed stays fs before.1)

-- ## The program

linking : (tells : List ℕ → Told) (files : List (List ℕ)) (modules : List Module) (ts : List TypedModule) (syms : Table)
    → IsAccepted tells files modules ts syms → AreLinking modules ts syms
linking tells files modules ts syms accepted = record { typed = accepted.hold.formed.typed; links = accepted.links }

module _ (law : TypedProgramsAreWellTyped) (run : LinkingModulesRun) (tells : List ℕ → Told) (files : List (List ℕ)) (syms : Table) where
  is_well_typed : Passes tells files syms → IsWellTypedProgram tells files syms
  is_well_typed passes = record {
    passes = passes;
    typed = λ modules ts accepted. law modules ts syms accepted.hold.formed.typed;
    runs = λ modules ts accepted. run modules ts syms (linking tells files modules ts syms accepted);
  }

  -- the same of an answer that tells of files that are accepted
  pub answers_well_typed : {T E : Type 0} {P : T → Type 0} (answer : Result T E) → ((x : T) → P x → Passes tells files syms) → IfOk answer P
      → OnOk answer (IsWellTypedProgram tells files syms)
  answers_well_typed (Ok x) passes ok = is_well_typed (passes x ok)
  answers_well_typed (Err fault) passes ok = tt
