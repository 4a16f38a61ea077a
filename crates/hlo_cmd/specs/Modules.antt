-- What all commands over modules promise of their words and files, up to linking.
use Rattle.std.specs.Prelude.{◌≡◌, ℕ, ◌⊎◌, List}
use Rattle.c_module.specs.Told.{AreQuiet, AreRefused}
use Rattle.c_module.specs.Verdict.{EndsAt, IsUnlinked, Passes}
use Rattle.c_module.specs.declared.fault.FileFault.TheVariants.{NoModule, CannotRead}
use Rattle.c_module.specs.declared.fault.ModuleFault.{ModuleFault}
use Rattle.linker.specs.declared.fault.LinkFault.{LinkFault}
use Rattle.outside.specs.Told.{Told}
use Rattle.sym_tables.specs.Table.{Table}
use Rattle.hlo_cmd.specs.Messages.{link_line, memory_line, module_line, unread_line, usage_line}

-- `Asks` says which files the words of a command ask for.

-- the words ask for files of which it is so
pub record OfAsked (Asks : List (List ℕ) → Type 0) (Holds : List (List ℕ) → Type 0) : Type 0 where
  pub files : List (List ℕ)
  pub asked : Asks files
  pub holds : Holds files

-- the verdict accepts the files
abbrev pub AreAccepted : (List ℕ → Told) → List (List ℕ) → Type 0
AreAccepted tells files = (syms : Table) × Passes tells files syms

-- the verdict on the files ends at one of them by its bytes, and its line was told
pub record StopsAtModule (tells : List ℕ → Told) (before after : List ℕ → ℕ) (Said : List ℕ → Type 0) (files : List (List ℕ)) : Type 0 where
  pub file : List ℕ
  pub fault : ModuleFault
  pub names : Table
  pub ends : EndsAt tells before after files file (NoModule fault) names
  pub said : Said (module_line names file fault)

-- it is that their modules don't link, and the line of that was told
pub record StopsAtLink (tells : List ℕ → Told) (Said : List ℕ → Type 0) (files : List (List ℕ)) : Type 0 where
  pub fault : LinkFault
  pub names : Table
  pub unlinked : IsUnlinked tells files names fault
  pub said : Said (link_line names fault)

-- it ends at one of them that couldn't be read, and its line was told
pub record StopsUnread (tells : List ℕ → Told) (before after : List ℕ → ℕ) (Said : List ℕ → Type 0) (files : List (List ℕ)) : Type 0 where
  pub file : List ℕ
  pub names : Table
  pub ends : EndsAt tells before after files file CannotRead names
  pub said : Said (unread_line file)

-- the files are refused, and the line that says why was told
abbrev pub StopsRefused : (List ℕ → Told) → (List ℕ → ℕ) → (List ℕ → ℕ) → (List ℕ → Type 0) → List (List ℕ) → Type 0
StopsRefused tells before after Said files = StopsAtModule tells before after Said files ⊎ StopsAtLink tells Said files

-- What all commands over modules promise: 2 says that the words ask for no files, 3 that the verdict on them is a refusal, 5
-- that one couldn't be read, each with the line that tells which; and where the shelf tells files that are to be refused, and no
-- count of them rose, they are, if memory suffices.
pub record ModulesPromise (Asks : List (List ℕ) → Type 0) (tells : List ℕ → Told) (before after : List ℕ → ℕ) (Said : List ℕ
    → Type 0) (status : ℕ) : Type 0 where
  pub usage : status ≡ 2 → ((files : List (List ℕ)) → Asks files → ⊥) × Said usage_line
  pub refused : status ≡ 3 → OfAsked Asks (StopsRefused tells before after Said)
  pub unread : status ≡ 5 → OfAsked Asks (StopsUnread tells before after Said)
  pub memory : status ≡ 10 → Said memory_line
  pub unusable : ((files : List (List ℕ)) → Asks files → ⊥) → (status ≡ 2) ⊎ (status ≡ 10)
  pub refuses : (files : List (List ℕ)) → Asks files → AreRefused tells files → AreQuiet before after files → (status ≡ 3) ⊎ (status ≡ 10)
