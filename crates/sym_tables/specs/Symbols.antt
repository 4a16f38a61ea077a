-- What is known of one name, and how it changes.
use Rattle.std.specs.Prelude.{ℕ, Bool, true, false, ◌&&◌, Option, Some, None, List, if◌then◌else◌}
use Rattle.std.specs.Option.{unwrap_or}
use Rattle.hlo_num.specs.declared.word.Word.{Word}
use Rattle.sym_tables.specs.declared.entity.Entity.{Entity}
use Rattle.sym_tables.specs.declared.entity.Entity.TheVariants.{Function, Scalar, Array}
use Rattle.sym_tables.specs.declared.symbol.Standing.{Standing}
use Rattle.sym_tables.specs.declared.symbol.Standing.TheVariants.{Declared, Tentative, Defined}
use Rattle.sym_tables.specs.declared.symbol.Symbol.{Symbol}
use Rattle.sym_tables.specs.Entities.{composite, is_function}

abbrev pub is_declared : Standing → Bool
is_declared Declared = true
is_declared Tentative = false
is_declared Defined = false

abbrev pub is_defined : Standing → Bool
is_defined Declared = false
is_defined Tentative = false
is_defined Defined = true

-- the further one of two: declared, tentative, defined
abbrev pub later : Standing → Standing → Standing
later Declared s = s
later Tentative Declared = Tentative
later Tentative Tentative = Tentative
later Tentative Defined = Defined
later Defined s = Defined

-- a name after it was declared or defined (again) as the entity, with these initial words: a definition's words stay,
-- and are set by a definition alone
abbrev pub met : Standing → Entity → List Word → Option Symbol → Symbol
met standing said init None = record { entity = said; standing = standing; init = init; used = false }
met standing said init (Some known) = record {
  entity = composite known.entity said;
  standing = later known.standing standing;
  init = if is_defined standing then init else known.init;
  used = known.used;
}

-- a routine of the program is a defined function
abbrev pub routine_part : Entity → Standing → ℕ
routine_part entity standing = if is_function entity && is_defined standing then 1 else 0

-- the elements of an array that is defined or tentative, with the length known so far
abbrev pub element_part : Entity → Standing → ℕ
element_part (Array ty fixed len) standing = if is_declared standing then 0 else unwrap_or len 0
element_part (Function gives params) standing = 0
element_part (Scalar ty fixed) standing = 0

-- used and not defined
abbrev pub is_open : Symbol → Bool
is_open s = s.used && is_declared s.standing
