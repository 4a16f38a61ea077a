-- The one spelling of a number: base 128, low part first, each byte but the last with its top bit set, in the fewest bytes.
use Rattle.std.specs.Prelude.{◌≡◌, ℕ, ◌+◌, ◌-◌, ◌*◌, ◌<◌, ◌≤◌, List, [], ◌∷◌, ◌++◌, take, drop}

-- A byte below 128 is the last, and stands for itself. One from 128 on has the low seven bits; what follows it stands
-- for the rest, which isn't 0, since a shorter spelling would do then.
abbrev pub IsSpelling : ℕ → List ℕ → Type 0
IsSpelling n [] = ⊥
IsSpelling n (b ∷ []) = (b < 128) × (n ≡ b)
IsSpelling n (b ∷ c ∷ bs) = (128 ≤ b) × (b < 256) × (rest : ℕ) × (0 < rest) × (n + 128 ≡ b + 128 * rest) × IsSpelling rest (c ∷ bs)

-- a spelling of n begins at a place of these bytes, and ends before another
abbrev pub IsSpelledAt : List ℕ → ℕ → ℕ → ℕ → Type 0
IsSpelledAt bytes at n end = (at ≤ end) × IsSpelling n (take (end - at) (drop at bytes))

-- new is old with the spelling of n at its end
pub record Appends (old new : List ℕ) (n : ℕ) : Type 0 where
  pub bytes : List ℕ
  pub spelled : IsSpelling n bytes
  pub appended : new ≡ old ++ bytes
