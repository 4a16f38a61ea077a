-- What is found in a program by PID and by name.
use Rattle.std.specs.Prelude.{ℕ, List, [], ◌∷◌, Option, Some, None, nat_eq, if◌then◌else◌, slice_index, map, codes}
use Rattle.std.specs.Cmp.Lexicographic.{pointwise}
use Rattle.hlo_num.specs.declared.word.Word.{Word}
use Rattle.il_core.specs.Object.{ObjectParts}
use Rattle.il_core.specs.declared.shape.ShapeRow.{ShapeRow}
use Rattle.il_core.specs.declared.shape.Shape.{Shape}
use Rattle.il_core.specs.Routine.{RoutineParts}

-- the first of a list that has this number
abbrev pub found : {X : Type 0} → (X → ℕ) → ℕ → List X → Option X
found number n [] = None
found number n (x ∷ xs) = if nat_eq (number x) n then Some x else found number n xs

abbrev pub routine_at : List RoutineParts → ℕ → Option RoutineParts
routine_at rs pid = found (λ r. r.pid) pid rs

abbrev pub object_at : List ObjectParts → ℕ → Option ObjectParts
object_at os pid = found (λ o. o.pid) pid os

-- the shape of a PID
abbrev pub shape_of_row : Option ShapeRow → Option Shape
shape_of_row None = None
shape_of_row (Some row) = Some row.shape

abbrev pub shape_at : List ShapeRow → ℕ → Option Shape
shape_at rows pid = shape_of_row (found (λ row. row.pid) pid rows)

-- how many words an object has; none where there is no such object
abbrev pub words_in : Option ObjectParts → ℕ
words_in None = 0
words_in (Some o) = o.words

abbrev pub words_of : List ObjectParts → ℕ → ℕ
words_of os pid = words_in (object_at os pid)

-- an object's word as the program starts: its initial words, and then 0
abbrev pub word_at_start : Option ObjectParts → ℕ → ℕ
word_at_start None i = 0
word_at_start (Some o) i = slice_index (map (λ (w : Word). w.0) o.init) i

abbrev pub initial_word : List ObjectParts → ℕ → ℕ → ℕ
initial_word os pid i = word_at_start (object_at os pid) i

-- the PID of the name `main`, or 0
abbrev pub pid_named : List ℕ → List ShapeRow → ℕ
pid_named name [] = 0
pid_named name (row ∷ rows) = if pointwise nat_eq row.name name then row.pid else pid_named name rows

abbrev pub main_pid : List ShapeRow → ℕ
main_pid rows = pid_named (codes "main") rows

-- the name of a PID, or none
abbrev pub name_of_row : Option ShapeRow → List ℕ
name_of_row None = []
name_of_row (Some row) = row.name

abbrev pub name_at : List ShapeRow → ℕ → List ℕ
name_at rows pid = name_of_row (found (λ row. row.pid) pid rows)
