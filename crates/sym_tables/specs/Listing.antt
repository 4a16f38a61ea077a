-- The shapes and the objects of a program, by PID.
use Rattle.std.specs.Prelude.{ℕ, suc, Bool, not, ◌&&◌, ◌==◌, List, [], ◌∷◌, ◌++◌, length, if◌then◌else◌, nat_lt, is_some}
use Rattle.hlo_num.specs.declared.word.Word.{Word}
use Rattle.il_core.specs.Object.{ObjectParts}
use Rattle.il_core.specs.declared.shape.Shape.{Shape}
use Rattle.il_core.specs.declared.shape.Shape.TheVariants.{Routine, Object}
use Rattle.il_core.specs.declared.shape.ShapeRow.{ShapeRow}
use Rattle.sym_tables.specs.declared.entity.Entity.{Entity}
use Rattle.sym_tables.specs.declared.entity.Entity.TheVariants.{Function, Scalar, Array}
use Rattle.sym_tables.specs.declared.symbol.Symbol.{Symbol}
use Rattle.sym_tables.specs.Entities.{words}
use Rattle.sym_tables.specs.Symbols.{is_declared}
use Rattle.sym_tables.specs.Table.{Table}

-- the shape of a function or an object
abbrev pub shape_of : Entity → Shape
shape_of (Function gives params) = Routine (length params) (is_some gives)
shape_of (Scalar ty fixed) = Object (words (Scalar ty fixed))
shape_of (Array ty fixed len) = Object (words (Array ty fixed len))

-- one row for each name, with PIDs from this one on
abbrev pub shapes_from : ℕ → Table → List ShapeRow
shapes_from pid [] = []
shapes_from pid (e ∷ es) = record { pid = pid; name = e.0; shape = shape_of e.1.entity } ∷ shapes_from (suc pid) es

abbrev pub shapes : Table → List ShapeRow
shapes syms = shapes_from 0 syms

-- a word in front of words without trailing zeros
abbrev pub before : Word → List Word → List Word
before w [] = if w.0 == 0 then [] else w ∷ []
before w (v ∷ vs) = w ∷ v ∷ vs

-- the words up to the last one that isn't 0
abbrev pub trimmed : List Word → List Word
trimmed [] = []
trimmed (w ∷ ws) = before w (trimmed ws)

-- an object of the program: defined or tentative, with at least one word, which a function and an array of unknown
-- length don't have
abbrev pub is_object : Symbol → Bool
is_object s = not (is_declared s.standing) && nat_lt 0 (words s.entity)

-- the object of a PID, if it is one
abbrev pub objects_at : ℕ → Symbol → List ObjectParts
objects_at pid s = if is_object s then record { pid = pid; words = words s.entity; init = trimmed s.init } ∷ [] else []

-- the objects among the names, with PIDs from this one on
abbrev pub objects_from : ℕ → Table → List ObjectParts
objects_from pid [] = []
objects_from pid (e ∷ es) = objects_at pid e.1 ++ objects_from (suc pid) es

abbrev pub objects : Table → List ObjectParts
objects syms = objects_from 0 syms
