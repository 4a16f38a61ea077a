-- The verdict on the files of a command: the first thing that is wrong with them, in the order in which it is told: file
-- by file whether it can be read, is a text of the lexical grammar, a module, follows the rules of types and linkage, and
-- has routines within the limits; then whether the modules link. Files are known as far as the shelf tells them.
use Rattle.std.specs.Prelude.{◌≡◌, ℕ, suc, ◌++◌, List, [], ◌∷◌, Some, None, length, ⊤}
use Rattle.linker.specs.Linking.{refusal}
use Rattle.linker.specs.declared.fault.LinkFault.{LinkFault}
use Rattle.outside.specs.Told.{Told}
use Rattle.sym_tables.specs.Table.{Table}
use Rattle.c_tree.specs.declared.declaration.Module.{Module}
use Rattle.c_typed.specs.declared.function.TypedModule.{TypedModule}
use Rattle.c_module.specs.Files.{HoldsModule, IsCause}
use Rattle.c_module.specs.Limits.{AreWellFormed}
use Rattle.c_module.specs.declared.fault.FileFault.{FileFault}
use Rattle.c_module.specs.declared.fault.FileFault.TheVariants.{NoModule, CannotRead, Memory}
use Rattle.c_module.specs.declared.fault.ProgramFault.{ProgramFault}
use Rattle.c_module.specs.declared.fault.ProgramFault.TheVariants as program

-- the files are the texts of these modules, one for each, in order
abbrev pub HoldModules : (List ℕ → Told) → List (List ℕ) → List Module → Type 0
HoldModules tells [] [] = ⊤
HoldModules tells [] (m ∷ modules) = ⊥
HoldModules tells (file ∷ files) [] = ⊥
HoldModules tells (file ∷ files) (m ∷ modules) = HoldsModule (tells file) m × HoldModules tells files modules

-- the files are the texts of these modules, which are typed so and are well formed, from no names to these
pub record HoldWellFormed (tells : List ℕ → Told) (files : List (List ℕ)) (modules : List Module) (ts : List TypedModule) (syms : Table) : Type 0 where
  pub held : HoldModules tells files modules
  pub formed : AreWellFormed modules ts syms

-- the files are accepted: they are the texts of well formed modules that link
pub record IsAccepted (tells : List ℕ → Told) (files : List (List ℕ)) (modules : List Module) (ts : List TypedModule) (syms : Table) : Type 0 where
  pub hold : HoldWellFormed tells files modules ts syms
  pub links : refusal syms ≡ None

-- the same for some modules
pub record Passes (tells : List ℕ → Told) (files : List (List ℕ)) (syms : Table) : Type 0 where
  pub modules : List Module
  pub ts : List TypedModule
  pub accepted : IsAccepted tells files modules ts syms

-- Going over the files in order ends at this one for this fault: those before it are the texts of well formed modules, and
-- the fault is that of the next number behind the names of those modules. What is told of names is told by the last
-- table.
pub record EndsAt (tells : List ℕ → Told) (before after : List ℕ → ℕ) (files : List (List ℕ)) (file : List ℕ) (fault : FileFault)
    (names : Table) : Type 0 where
  pub earlier : List (List ℕ)
  pub later : List (List ℕ)
  pub modules : List Module
  pub ts : List TypedModule
  pub syms : Table
  pub whole : files ≡ earlier ++ file ∷ later
  pub hold : HoldWellFormed tells earlier modules ts syms
  pub cause : IsCause (suc (length earlier)) syms fault (tells file) (before file) (after file) names

-- the files are the texts of well formed modules with these names, which don't link for this fault
pub record IsUnlinked (tells : List ℕ → Told) (files : List (List ℕ)) (syms : Table) (fault : LinkFault) : Type 0 where
  pub modules : List Module
  pub ts : List TypedModule
  pub hold : HoldWellFormed tells files modules ts syms
  pub refused : refusal syms ≡ Some fault

-- why files give no program: going over them ends at one of them, the modules, which have these names, don't link, or
-- memory ran out, for which nothing need be so
abbrev pub IsProgramCause : ProgramFault → List (List ℕ) → (List ℕ → Told) → (List ℕ → ℕ) → (List ℕ → ℕ) → Table → Type 0
IsProgramCause (program.File file fault) files tells before after syms = EndsAt tells before after files file.now fault syms
IsProgramCause (program.Link fault) files tells before after syms = IsUnlinked tells files syms fault
IsProgramCause program.Memory files tells before after syms = ⊤

-- the fault is want of memory
abbrev pub IsWant : ProgramFault → Type 0
IsWant (program.File file (NoModule fault)) = ⊥
IsWant (program.File file CannotRead) = ⊥
IsWant (program.File file Memory) = ⊤
IsWant (program.Link fault) = ⊥
IsWant program.Memory = ⊤

-- the fault is a file that can't be read
abbrev pub IsUnread : ProgramFault → Type 0
IsUnread (program.File file (NoModule fault)) = ⊥
IsUnread (program.File file CannotRead) = ⊤
IsUnread (program.File file Memory) = ⊥
IsUnread (program.Link fault) = ⊥
IsUnread program.Memory = ⊥
