-- Parts of the bytes that a disk tells.
use Rattle.std.specs.Prelude.{ℕ, ◌==◌, ◌&&◌, ◌||◌, Bool, true, false, if◌then◌else◌, List, [], ◌∷◌, length, Option, Some, None, sum_by}
use Rattle.std.specs.Map.{values_of}

-- the bytes, with zeros after their end, begin with x
abbrev pub begins_with : List ℕ → List ℕ → Bool
begins_with [] bytes = true
begins_with (b ∷ x) [] = (b == 0) && begins_with x []
begins_with (b ∷ x) (c ∷ bytes) = (b == c) && begins_with x bytes

-- x is a contiguous part of the bytes, with zeros after their end
abbrev pub is_part : List ℕ → List ℕ → Bool
is_part x [] = begins_with x []
is_part x (c ∷ bytes) = begins_with x (c ∷ bytes) || is_part x bytes

-- x is such a part of the bytes, which are told
abbrev pub is_told_part : Option (List ℕ) → List ℕ → Bool
is_told_part None x = false
is_told_part (Some bytes) x = is_part x bytes

-- the compact lengths of the values whose compact spelling isn't such a part, summed
abbrev pub untold_len : {T : Type 0} → (T → List ℕ) → Option (List ℕ) → List (ℕ × T) → ℕ
untold_len spell told entries = sum_by (λ r. if is_told_part told (spell r) then 0 else length (spell r)) (values_of entries)
