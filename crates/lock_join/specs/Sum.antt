-- A number that is the sum of the notes of the live passes, as a word of 64 bits has it.
use Rattle.std.specs.Prelude.{◌≡◌, ℕ, ◌+◌, ◌%◌, ◌^◌, List, [], ◌∷◌, Option, Some, None}

-- an ended pass has added nothing
abbrev pub part_of : Option ℕ → ℕ
part_of None = 0
part_of (Some n) = n

abbrev pub total : List (Option ℕ) → ℕ
total [] = 0
total (m ∷ ms) = part_of m + total ms

abbrev pub IsSum : ℕ → List (Option ℕ) → Type 0
IsSum number notes = number ≡ total notes % 2 ^ 64
