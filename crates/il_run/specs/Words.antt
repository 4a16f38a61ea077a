-- Words that lie one after another in a list: some registers, and arrays side by side.
use Rattle.std.specs.Prelude.{◌≡◌, ℕ, ◌+◌, ◌<◌, ◌≤◌, List, length, take, sum, slice_index, nat_lt, if◌then◌else◌}

-- n words of a list from a place on, and 0 past them
abbrev pub window : List ℕ → ℕ → ℕ → ℕ → ℕ
window xs base n x = if nat_lt x n then slice_index xs (base + x) else 0

-- where an array begins, if arrays of these lengths stand side by side
abbrev pub start_of : List ℕ → ℕ → ℕ
start_of lens a = sum (take a lens)

-- the elements of arrays that stand side by side in a list from a place on, and 0 past their ends
abbrev pub arrays_in : List ℕ → ℕ → List ℕ → ℕ → ℕ → ℕ
arrays_in xs base lens a i = if nat_lt i (slice_index lens a) then slice_index xs (base + start_of lens a + i) else 0

-- the starts of all arrays, and at last the end of the last
pub record AreStarts (lens starts : List ℕ) : Type 0 where
  pub count : length starts ≡ length lens + 1
  pub each : (a : ℕ) → a ≤ length lens → slice_index starts a ≡ start_of lens a

-- the numbers from a place to another became 0, and the others stayed
pub record Zeroed (old new : List ℕ) (from to : ℕ) : Type 0 where
  pub count : length new ≡ length old
  pub inside : (k : ℕ) → from ≤ k → k < to → slice_index new k ≡ 0
  pub before : (k : ℕ) → k < from → slice_index new k ≡ slice_index old k
  pub after : (k : ℕ) → to ≤ k → slice_index new k ≡ slice_index old k
