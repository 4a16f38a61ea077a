-- The words of a line.
use Rattle.std.specs.Prelude.{ℕ, ◌≡◌, ◌+◌, ◌==◌, if◌then◌else◌, List, [], ◌∷◌, Option, Some, None, option_copied}
use Rattle.text_lines.specs.declared.words.Words.{Words}

-- a byte in front of the first word
abbrev pub onto_first : ℕ → List (List ℕ) → List (List ℕ)
onto_first b [] = (b ∷ []) ∷ []
onto_first b (w ∷ ws) = (b ∷ w) ∷ ws

-- the parts of a line between its spaces
abbrev pub words_of : List ℕ → List (List ℕ)
words_of [] = [] ∷ []
words_of (b ∷ bs) = if b == 32 then [] ∷ words_of bs else onto_first b (words_of bs)

-- how many bytes stand before the first space
abbrev pub first_len : List ℕ → ℕ
first_len [] = 0
first_len (b ∷ bs) = if b == 32 then 0 else first_len bs + 1

abbrev pub words_in : Option (List ℕ) → List (List ℕ)
words_in None = []
words_in (Some bytes) = words_of bytes

abbrev pub words_left : Words → List (List ℕ)
words_left w = words_in (option_copied w.rest)

-- a reader answered with this value, and these words are left
abbrev pub IsRead : {X : Type 0} → Option (X × Words) → X → List (List ℕ) → Type 0
IsRead None x ws = ⊥
IsRead (Some r) x ws = (r.0 ≡ x) × (words_left r.1 ≡ ws)
