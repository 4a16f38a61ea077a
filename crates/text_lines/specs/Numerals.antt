-- Digits that spell no number.
use Rattle.std.specs.Prelude.{ℕ, Bool, false, ◌==◌, ◌||◌, List, [], ◌∷◌}

-- a `+`, or a `0` before further bytes, stands first
abbrev pub is_padded : List ℕ → Bool
is_padded [] = false
is_padded (b ∷ []) = b == 43
is_padded (b ∷ c ∷ bs) = b == 43 || b == 48
