-- What a shelf tells of its files.
use Rattle.std.specs.Prelude.{◌≡◌, ℕ, ◌-◌, ◌<◌, List, length, min, take, drop, ⊤, Result, IfOk, IsErr}

-- what a shelf tells of the file of a name: nothing, that there is none, or its bytes
pub data Told : Type 0 where
  Untold : Told
  Absent : Told
  Holds : List ℕ → Told

-- the same is told of each name
abbrev pub SameFiles : (List ℕ → Told) → (List ℕ → Told) → Type 0
SameFiles old new = (name : List ℕ) → new name ≡ old name

-- the first n bytes of the buffer are the first n of what is left, and none only where nothing is left or the buffer is empty
pub record GivesFront (left : List ℕ) (n : ℕ) (buffer : List ℕ) : Type 0 where
  pub same : take n buffer ≡ take n left
  pub some : 0 < length buffer → 0 < length left → 0 < n

-- a read of a file from a place on: an absent file is an error, told bytes are given in order
abbrev pub ReadsTold : {E : Type 0} → Told → ℕ → Result ℕ E → List ℕ → Type 0
ReadsTold Untold at r buffer = ⊤
ReadsTold Absent at r buffer = IsErr r
ReadsTold (Holds bytes) at r buffer = IfOk r (λ n. GivesFront (drop at bytes) n buffer)

-- a read that succeeds fills the buffer as far as bytes are left
abbrev pub FillsBuffer : {E : Type 0} → Told → ℕ → Result ℕ E → List ℕ → Type 0
FillsBuffer Untold at r buffer = ⊤
FillsBuffer Absent at r buffer = ⊤
FillsBuffer (Holds bytes) at r buffer = IfOk r (λ n. n ≡ min (length buffer) (length bytes - at))

-- these bytes are the file, as far as it is told
abbrev pub IsFile : Told → List ℕ → Type 0
IsFile Untold bytes = ⊤
IsFile Absent bytes = ⊥
IsFile (Holds whole) bytes = bytes ≡ whole

-- the file has more than n bytes, as far as it is told
abbrev pub IsLongerThan : Told → ℕ → Type 0
IsLongerThan Untold n = ⊤
IsLongerThan Absent n = ⊥
IsLongerThan (Holds whole) n = n < length whole
