-- Lists by rising number.
use Rattle.std.specs.Prelude.{ℕ, ◌<◌, List, [], ◌∷◌, ⊤}

-- each number is above the one before
abbrev pub IsRisingFrom : {X : Type 0} → (X → ℕ) → ℕ → List X → Type 0
IsRisingFrom number before [] = ⊤
IsRisingFrom number before (x ∷ xs) = (before < number x) × IsRisingFrom number (number x) xs

abbrev pub IsRising : {X : Type 0} → (X → ℕ) → List X → Type 0
IsRising number [] = ⊤
IsRising number (x ∷ xs) = IsRisingFrom number (number x) xs
