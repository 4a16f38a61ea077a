-- Lists by number.
use Rattle.std.specs.Prelude.{ℕ, List, [], ◌∷◌, ◌++◌, slice_index_or, slice_set}

-- a number behind the others of a list
abbrev pub put_in : List (List ℕ) → ℕ → ℕ → List (List ℕ)
put_in ls at x = slice_set ls at (slice_index_or ls at [] ++ x ∷ [])
