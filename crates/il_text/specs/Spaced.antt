-- Parts of lines.
use Rattle.std.specs.Prelude.{ℕ, List, [], ◌∷◌, Option, flat_map, codes}
use Rattle.std.specs.List.{join_with_byte}
use Rattle.std.specs.Fmt.{decimal}
use Rattle.il_core.specs.Text.{gets_if_some, value_name}
use Rattle.il_core.specs.Object.{ObjectParts}
use Rattle.il_core.specs.Routine.{RoutineParts}

-- each part with a space before it
abbrev pub spaced : List (List ℕ) → List ℕ
spaced parts = flat_map (λ part. 32 ∷ part) parts

-- the line of a call up to its arguments
abbrev pub call_head : Option ℕ → ℕ → ℕ → List ℕ
call_head dest callee count = 32 ∷ 32 ∷ join_with_byte 32 (gets_if_some dest (codes "call" ∷ decimal callee ∷ codes "count" ∷ decimal count ∷ []))

-- the first line of a routine up to the lengths of its arrays
abbrev pub routine_head : List ℕ → RoutineParts → List ℕ
routine_head name r = join_with_byte 32 (codes "routine" ∷ decimal r.pid ∷ name ∷ codes "params" ∷ decimal r.params ∷ value_name r.value ∷ codes "regs" ∷
    decimal r.regs ∷ codes "entry" ∷ decimal r.entry ∷ [])

-- the line of an object up to its number of words
abbrev pub object_head : List ℕ → ObjectParts → List ℕ
object_head name o = join_with_byte 32 (codes "object" ∷ decimal o.pid ∷ name ∷ decimal o.words ∷ [])
