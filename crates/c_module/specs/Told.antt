-- Files that the shelf tells: which are sure to be accepted, and which to be refused.
use Rattle.std.specs.Prelude.{◌≡◌, ℕ, ◌⊎◌, ◌++◌, List, [], ◌∷◌, All, Contains, None, ⊤}
use Rattle.linker.specs.Linking.{refusal}
use Rattle.outside.specs.Faults.{Rose}
use Rattle.outside.specs.Told.{Told, Holds}
use Rattle.sym_tables.specs.Table.{Table}
use Rattle.c_tree.specs.declared.declaration.Module.{Module}
use Rattle.c_typed.specs.declared.function.TypedModule.{TypedModule}
use Rattle.c_module.specs.Limits.{AreWellFormed}
use Rattle.c_module.specs.Texts.{IsModuleText}

-- no count of these files rose
abbrev pub AreQuiet : (List ℕ → ℕ) → (List ℕ → ℕ) → List (List ℕ) → Type 0
AreQuiet before after files = All (λ f. Rose (before f) (after f) → ⊥) files

-- the file is told, and is the text of this module
pub record IsTextOf (told : Told) (m : Module) : Type 0 where
  pub bytes : List ℕ
  pub holds : told ≡ Holds bytes
  pub text : IsModuleText bytes m

-- the files are told, and are the texts of these modules, one for each, in order
abbrev pub AreTextsOf : (List ℕ → Told) → List (List ℕ) → List Module → Type 0
AreTextsOf tells [] [] = ⊤
AreTextsOf tells [] (m ∷ modules) = ⊥
AreTextsOf tells (file ∷ files) [] = ⊥
AreTextsOf tells (file ∷ files) (m ∷ modules) = IsTextOf (tells file) m × AreTextsOf tells files modules

-- the files are told, and are the texts of well formed modules, from no names to these
pub record AreWellFormedTexts (tells : List ℕ → Told) (files : List (List ℕ)) (syms : Table) : Type 0 where
  pub modules : List Module
  pub ts : List TypedModule
  pub texts : AreTextsOf tells files modules
  pub formed : AreWellFormed modules ts syms

-- the file is told, and is the text of no module
pub record IsOtherFile (told : Told) : Type 0 where
  pub bytes : List ℕ
  pub holds : told ≡ Holds bytes
  pub none : (m : Module) → IsModuleText bytes m → ⊥

-- the first of the files are told, and are the texts of modules that don't all follow the rules of types and linkage and
-- keep the limits
pub record AreIllFormed (tells : List ℕ → Told) (files : List (List ℕ)) : Type 0 where
  pub first : List (List ℕ)
  pub later : List (List ℕ)
  pub modules : List Module
  pub whole : files ≡ first ++ later
  pub texts : AreTextsOf tells first modules
  pub broken : (ts : List TypedModule) (syms : Table) → AreWellFormed modules ts syms → ⊥

-- the files are told, and are the texts of well formed modules, which don't link
pub record AreUnlinkedTexts (tells : List ℕ → Told) (files : List (List ℕ)) : Type 0 where
  pub syms : Table
  pub formed : AreWellFormedTexts tells files syms
  pub apart : refusal syms ≡ None → ⊥

-- one of the files is told, and is the text of no module
pub record HaveOther (tells : List ℕ → Told) (files : List (List ℕ)) : Type 0 where
  pub file : List ℕ
  pub among : Contains files file
  pub other : IsOtherFile (tells file)

-- the files are told to be such as are refused
abbrev pub AreRefused : (List ℕ → Told) → List (List ℕ) → Type 0
AreRefused tells files = HaveOther tells files ⊎ (AreIllFormed tells files ⊎ AreUnlinkedTexts tells files)
