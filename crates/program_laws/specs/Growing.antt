-- How the table of the program's names grows while modules are typed, and which shapes cover it.
use Rattle.std.specs.Prelude.{◌≡◌, ℕ, Bool, true, false, List, Option, Some, None, is_some, length}
use Rattle.il_core.specs.declared.shape.Shape.TheVariants as shape
use Rattle.il_core.specs.declared.shape.ShapeRow.{ShapeRow}
use Rattle.il_core.specs.Program.{shape_at}
use Rattle.il_core.specs.Valid.{NamesObject}
use Rattle.sym_tables.specs.declared.entity.Entity.{Entity}
use Rattle.sym_tables.specs.declared.entity.Entity.TheVariants.{Function, Scalar, Array}
use Rattle.sym_tables.specs.declared.symbol.Standing.{Standing}
use Rattle.sym_tables.specs.declared.symbol.Symbol.{Symbol}
use Rattle.sym_tables.specs.Symbols.{is_declared, is_defined}
use Rattle.sym_tables.specs.Table.{Table, pid_of, symbol_at}

-- what is known of a PID: what it stands for, how far it is defined, whether it is used
abbrev pub entity_in : Option Symbol → Option Entity
entity_in None = None
entity_in (Some s) = Some s.entity

abbrev pub standing_in : Option Symbol → Option Standing
standing_in None = None
standing_in (Some s) = Some s.standing

abbrev pub used_in : Option Symbol → Bool
used_in None = false
used_in (Some s) = s.used

abbrev pub entity_at : Table → ℕ → Option Entity
entity_at syms pid = entity_in (symbol_at syms pid)

abbrev pub standing_at : Table → ℕ → Option Standing
standing_at syms pid = standing_in (symbol_at syms pid)

abbrev pub is_used_at : Table → ℕ → Bool
is_used_at syms pid = used_in (symbol_at syms pid)

-- the same thing, of which a length may have come
abbrev pub IsMore : Entity → Entity → Type 0
IsMore (Function gives params) now = now ≡ Function gives params
IsMore (Scalar ty fixed) now = now ≡ Scalar ty fixed
IsMore (Array ty fixed (Some n)) now = now ≡ Array ty fixed (Some n)
IsMore (Array ty fixed None) now = (len : Option ℕ) × (now ≡ Array ty fixed len)

-- the same standing or a further one
abbrev pub IsFurther : Standing → Standing → Type 0
IsFurther before now = (is_declared before ≡ false → is_declared now ≡ false) × (is_defined before ≡ true → is_defined now ≡ true)

-- A table has grown from another: each old name keeps its PID and what it stands for up to a length that comes, a known
-- length stays, what is defined or tentative stays so, and what is used stays used.
pub record Grows (old new : Table) : Type 0 where
  pub names : (name : List ℕ) (pid : ℕ) → pid_of old name ≡ Some pid → pid_of new name ≡ Some pid
  pub entities : (pid : ℕ) (e : Entity) → entity_at old pid ≡ Some e → (now : Entity) × (entity_at new pid ≡ Some now) × IsMore e now
  pub standings : (pid : ℕ) (s : Standing) → standing_at old pid ≡ Some s → (now : Standing) × (standing_at new pid ≡ Some now) × IsFurther s now
  pub used : (pid : ℕ) → is_used_at old pid ≡ true → is_used_at new pid ≡ true

-- the shapes have a function's row, or that of some object
abbrev pub Shows : List ShapeRow → ℕ → Entity → Type 0
Shows rows pid (Function gives params) = shape_at rows pid ≡ Some (shape.Routine (length params) (is_some gives))
Shows rows pid (Scalar ty fixed) = NamesObject rows pid
Shows rows pid (Array ty fixed len) = NamesObject rows pid

-- shapes cover a table where they have each name that is used, as what it stands for
abbrev pub Covers : List ShapeRow → Table → Type 0
Covers rows syms = (pid : ℕ) (e : Entity) → entity_at syms pid ≡ Some e → is_used_at syms pid ≡ true → Shows rows pid e
