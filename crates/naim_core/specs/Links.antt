-- How a ring keeps slots one behind the other: by two lists of links, with the ends at the place 4,096.
use Rattle.std.specs.Prelude.{◌≡◌, ℕ, ◌<◌, Bool, true, false, nat_eq, List, [], ◌∷◌, ◌++◌, length, reverse, Some, slice_get}
use Rattle.std.specs.List.{IsDistinct, AllByRecursion}

-- the links lead from a through xs to b
abbrev pub Chain : List ℕ → ℕ → List ℕ → ℕ → Type 0
Chain links a [] b = slice_get links a ≡ Some b
Chain links a (x ∷ xs) b = (slice_get links a ≡ Some x) × Chain links x xs b

-- The slots, the first one first: by one list of links from the front, and by the other one from the back.
pub record IsRing (behind before slots : List ℕ) : Type 0 where
  pub forth : Chain behind 4096 slots 4096
  pub back : Chain before 4096 (reverse slots) 4096
  pub below : AllByRecursion (λ i. i < 4096) slots
  pub differ : IsDistinct nat_eq slots
  pub behind_sized : length behind ≡ 4097
  pub before_sized : length before ≡ 4097

-- the slot, where it is in, and then the others
abbrev pub held : Bool → ℕ → List ℕ → List ℕ
held true slot others = slot ∷ others
held false slot others = others

-- the slots before the slot and behind it, which is in or not
pub record InRing (behind before : List ℕ) (slot : ℕ) (is_in : Bool) : Type 0 where
  pub newer : List ℕ
  pub older : List ℕ
  pub ring : IsRing behind before (newer ++ held is_in slot older)
  pub apart : AllByRecursion (λ k. nat_eq slot k ≡ false) (newer ++ older)
  pub fits : slot < 4096
