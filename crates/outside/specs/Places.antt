-- A disk's places, and what reads and writes do to them.
use Rattle.std.specs.Prelude.{◌≡◌, ℕ, ◌+◌, ◌/◌, ◌%◌, ◌^◌, ◌<◌, ◌≤◌, ◌==◌, Bool, if◌then◌else◌, bit_xor, IsTrue, List, slice_index, None, Some, Result}
use Rattle.std.specs.Prelude.{IfOk, MatchResult}
use Rattle.std.specs.declared.option.Option.{Option}

-- the byte at a place: 0 past the end of what is told
abbrev pub byte_at : Option (List ℕ) → ℕ → ℕ
byte_at None place = 0
byte_at (Some bytes) place = slice_index bytes place

-- each place has what it had
abbrev pub SamePlaces : Option (List ℕ) → Option (List ℕ) → Type 0
SamePlaces old new = (place : ℕ) → byte_at new place ≡ byte_at old place

-- the first n bytes of the buffer are those of the places from `at` on
abbrev pub GivesPlaces : Option (List ℕ) → ℕ → ℕ → List ℕ → Type 0
GivesPlaces told at n buffer = (k : ℕ) → k < n → slice_index buffer k ≡ byte_at told (at + k)

-- the n places from `at` on have the first n bytes of the piece, and every other place has what it had
pub record Overwrites (old new : Option (List ℕ)) (at n : ℕ) (piece : List ℕ) : Type 0 where
  pub inside : (k : ℕ) → k < n → byte_at new (at + k) ≡ slice_index piece k
  pub before : (place : ℕ) → place < at → byte_at new place ≡ byte_at old place
  pub after : (place : ℕ) → at + n ≤ place → byte_at new place ≡ byte_at old place

-- what an honest disk does at a read within its reach: it stays honest, changes no place, and gives what its places have
pub record ReadsPlaces {E : Type 0} (old new : Option (List ℕ)) (is_honest : Bool) (at : ℕ) (r : Result ℕ E) (buffer : List ℕ) : Type 0 where
  pub honest : IsTrue is_honest
  pub same : SamePlaces old new
  pub gives : IfOk r (λ n. GivesPlaces old at n buffer)

-- what an honest disk does at a write within its reach: it stays honest, and puts the bytes taken at their places, or none at an error
pub record WritesPlaces {E : Type 0} (old new : Option (List ℕ)) (is_honest : Bool) (at : ℕ) (r : Result ℕ E) (piece : List ℕ) : Type 0 where
  pub honest : IsTrue is_honest
  pub puts : MatchResult r (λ n. Overwrites old new at n piece) (λ _. SamePlaces old new)

-- byte k of a buffer, with one bit of the buffer turned: bit 0 is the low bit of byte 0
abbrev pub turned_at : ℕ → ℕ → ℕ → ℕ
turned_at bit k byte = if k == bit / 8 then bit_xor byte (2 ^ (bit % 8)) else byte

-- the buffer's first n bytes are those of the places from `at` on, but for the one bit if this is the read that is bent
abbrev pub GivesBent : Option (List ℕ) → ℕ → ℕ → List ℕ → Bool → ℕ → Type 0
GivesBent told at n buffer is_bent bit = (k : ℕ) → k < n
    → slice_index buffer k ≡ (if is_bent then turned_at bit k (byte_at told (at + k)) else byte_at told (at + k))
