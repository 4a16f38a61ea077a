-- What `check` promises.
use Rattle.std.specs.Prelude.{◌≡◌, ℕ, ◌⊎◌, List, [], None}
use Rattle.c_module.specs.Told.{AreQuiet, AreWellFormedTexts}
use Rattle.c_module.specs.WellTyped.{IsWellTypedProgram}
use Rattle.hlo_words.specs.Settings.{IsCheckSettings}
use Rattle.linker.specs.Linking.{refusal}
use Rattle.outside.specs.Told.{Told}
use Rattle.sym_tables.specs.Table.{Table}
use Rattle.hlo_cmd.specs.Modules.{ModulesPromise, OfAsked}

-- the words of `check` ask for these files
abbrev pub AsksCheck : List (List ℕ) → List (List ℕ) → Type 0
AsksCheck words files = IsCheckSettings words (record { files = files })

-- the statuses of `check`
abbrev pub IsCheckStatus : ℕ → Type 0
IsCheckStatus status = (status ≡ 0) ⊎ ((status ≡ 2) ⊎ ((status ≡ 3) ⊎ ((status ≡ 5) ⊎ (status ≡ 10))))

-- the verdict accepts the files, the program of their modules is well typed, and it has a run for every input and every number of
-- turns
abbrev pub AreWellTyped : (List ℕ → Told) → List (List ℕ) → Type 0
AreWellTyped tells files = (syms : Table) × IsWellTypedProgram tells files syms

-- What `check` promises: at 0 the verdict accepts the files, their program is well typed and never stuck, and nothing was told;
-- and told files of well formed modules that link are answered so where no count of them rose and memory suffices.
pub record CheckPromise (words : List (List ℕ)) (tells : List ℕ → Told) (before after : List ℕ → ℕ) (Said : List ℕ → Type 0) (status : ℕ) : Type 0 where
  pub known : IsCheckStatus status
  pub passed : status ≡ 0 → OfAsked (AsksCheck words) (AreWellTyped tells) × Said []
  pub modules : ModulesPromise (AsksCheck words) tells before after Said status
  pub complete : (files : List (List ℕ)) (names : Table) → AsksCheck words files → AreWellFormedTexts tells files names → refusal names ≡ None
      → AreQuiet before after files → (status ≡ 0) ⊎ (status ≡ 10)
