-- A range of a disk's places, and what reading and writing the whole of it do.
use Rattle.std.specs.Prelude.{ℕ, ◌≤◌, Bool, IsTrue, List, length, Option, Result, OnOk, MatchResult}
use Rattle.outside.specs.Places.{GivesPlaces, Overwrites, SamePlaces}

-- the places from `place` on have these bytes
abbrev pub HasBytes : Option (List ℕ) → ℕ → List ℕ → Type 0
HasBytes told place bytes = GivesPlaces told place (length bytes) bytes

-- an honest disk stays honest and changes no place at a read, and at `Ok` the buffer has the places' bytes
pub record ReadsRange {T E : Type 0} (old new : Option (List ℕ)) (is_honest : Bool) (place : ℕ) (r : Result T E) (buffer : List ℕ) : Type 0 where
  pub honest : IsTrue is_honest
  pub same : SamePlaces old new
  pub gives : OnOk r (HasBytes old place buffer)

-- an honest disk stays honest at a write: at `Ok` the range has the bytes, at an error a front of it may have them, and every other place has what it had
pub record WritesRange {T E : Type 0} (old new : Option (List ℕ)) (is_honest : Bool) (place : ℕ) (r : Result T E) (bytes : List ℕ) : Type 0 where
  pub honest : IsTrue is_honest
  pub puts : MatchResult r (λ _. Overwrites old new place (length bytes) bytes) (λ _. (n : ℕ) × (n ≤ length bytes) × Overwrites old new place n bytes)
