-- What holds of the table of names behind each module, and of the functions of the modules so far.
use Rattle.std.specs.Prelude.{◌≡◌, ◌≢◌, ℕ, ◌<◌, Bool, false, List, [], ◌∷◌, length, Option, Some, None, is_some, IsTrue, ⊤}
use Rattle.std.specs.List.{AllByRecursion}
use Rattle.std.specs.Map.{keys_of}
use Rattle.hlo_num.specs.declared.word.Ty.{Ty}
use Rattle.il_core.specs.declared.shape.Shape.TheVariants as shape
use Rattle.il_core.specs.declared.shape.ShapeRow.{ShapeRow}
use Rattle.sym_tables.specs.declared.entity.Entity.{Entity}
use Rattle.sym_tables.specs.declared.entity.Entity.TheVariants as entities
use Rattle.sym_tables.specs.declared.symbol.Standing.{Standing}
use Rattle.sym_tables.specs.declared.symbol.Standing.TheVariants as standings
use Rattle.sym_tables.specs.Listing.{shape_of}
use Rattle.sym_tables.specs.Sound.{IsSound}
use Rattle.sym_tables.specs.Symbols.{is_declared}
use Rattle.sym_tables.specs.Table.{Table}
use Rattle.c_typed.specs.Meaning.{function_at}
use Rattle.c_typed.specs.Trees.{Function}
use Rattle.lower_laws.specs.Bound.{IsBound}
use Rattle.lower_laws.specs.Fits.{FitsFunction}
use Rattle.program_laws.specs.Growing.{entity_at, standing_at, Covers}

-- no two names are the same
abbrev pub AreOnce : List (List ℕ) → Type 0
AreOnce [] = ⊤
AreOnce (k ∷ ks) = AllByRecursion (λ other. other ≢ k) ks × AreOnce ks

-- A function stands in a table: its PID is defined there as a function with its parameters and its result, and it fits all
-- shapes that cover the table.
pub record Stands (syms : Table) (f : Function) : Type 0 where
  pub entity : Entity
  pub is : entity_at syms f.pid ≡ Some entity
  pub shape : shape_of entity ≡ shape.Routine (length f.params) (is_some f.result)
  pub defined : standing_at syms f.pid ≡ Some standings.Defined
  pub fits : (rows : List ShapeRow) → Covers rows syms → FitsFunction rows f

-- one of the functions has this PID
abbrev pub HasFunction : List Function → ℕ → Type 0
HasFunction fs pid = IsTrue (is_some (function_at fs pid))

-- a function's name is declared, or defined by what has its PID, and never tentative
abbrev pub IsProvided : (ℕ → Type 0) → ℕ → Standing → Type 0
IsProvided has pid standings.Declared = ⊤
IsProvided has pid standings.Tentative = ⊥
IsProvided has pid standings.Defined = has pid

-- no two functions have one PID
abbrev pub HaveOwnPids : List Function → Type 0
HaveOwnPids [] = ⊤
HaveOwnPids (f ∷ fs) = AllByRecursion (λ other. other.pid ≢ f.pid) fs × HaveOwnPids fs

-- No limit is passed, names are distinct, known lengths aren't 0, each function that is defined is there, and each function
-- stands in the table with a PID of its own.
pub record AreSettled (has : ℕ → Type 0) (fs : List Function) (syms : Table) : Type 0 where
  pub sound : IsSound syms
  pub names : AreOnce (keys_of syms)
  pub lengths : (pid : ℕ) (ty : Ty) (fixed : Bool) (n : ℕ) → entity_at syms pid ≡ Some (entities.Array ty fixed (Some n)) → 0 < n
  pub routines : (pid : ℕ) (gives : Option Ty) (params : List Ty) (s : Standing) → entity_at syms pid ≡ Some (entities.Function gives params)
      → standing_at syms pid ≡ Some s → IsProvided has pid s
  pub functions : AllByRecursion (Stands syms) fs
  pub apart : HaveOwnPids fs

-- each array that is defined or tentative has a length
abbrev pub HaveLengths : Table → Type 0
HaveLengths syms = (pid : ℕ) (ty : Ty) (fixed : Bool) (s : Standing) → entity_at syms pid ≡ Some (entities.Array ty fixed None)
    → standing_at syms pid ≡ Some s → is_declared s ≡ false → ⊥

-- functions of modules that were typed one after another, and the table that they left
pub record AreWhole (fs : List Function) (syms : Table) : Type 0 where
  pub settled : AreSettled (HasFunction fs) fs syms
  pub lengths : HaveLengths syms
  pub bound : AllByRecursion IsBound fs
