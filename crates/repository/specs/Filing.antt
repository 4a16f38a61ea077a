-- What filing and fetching answer.
use Rattle.std.specs.Prelude.{◌≡◌, ◌≢◌, ℕ, Bool, IsTrue, List, length, Option, Result, Ok, Err, IfOk, Vec, ⊤}
use Rattle.std.specs.declared.alloc.Global.{Global}
use Rattle.outside.specs.Faults.{Rose}
use Rattle.outside.specs.Places.{SamePlaces}
use Rattle.sha2.specs.Sha256.{sha256}
use Rattle.repository.specs.declared.filing.Filed.{Filed}
use Rattle.repository.specs.declared.filing.RepoFault.{RepoFault}
use Rattle.repository.specs.declared.filing.RepoFault.TheVariants.{Failed, Damaged, Memory}
use Rattle.repository.specs.Record.{HasBytes}

-- the record of these bytes at this place
abbrev pub record_of : ℕ → List ℕ → Filed
record_of place bytes = record { place = place; len = length bytes; digest = sha256 bytes }

-- the disk failed, and its count rose
abbrev pub IsCountedFault : ℕ → ℕ → RepoFault → Type 0
IsCountedFault before now Failed = Rose before now
IsCountedFault before now (Damaged kept found) = ⊥
IsCountedFault before now Memory = ⊥

-- why bytes weren't read: the disk's count rose, or memory ran out
abbrev pub ReadFault : ℕ → ℕ → RepoFault → Type 0
ReadFault before now Failed = Rose before now
ReadFault before now (Damaged kept found) = ⊥
ReadFault before now Memory = ⊤

-- an honest disk stays honest and changes no place at a read of a record, which gives the bytes of its places
pub record ReadsRecord (old new : Option (List ℕ)) (is_honest : Bool) (place : ℕ) (r : Result (Vec ℕ Global) RepoFault) : Type 0 where
  pub honest : IsTrue is_honest
  pub same : SamePlaces old new
  pub gives : IfOk r (λ v. HasBytes old place v.items)

-- why a record isn't fetched: the disk's count rose; or as many bytes as the record has were read whose digest isn't the kept one; or memory ran out
abbrev pub FetchFault : Filed → ℕ → ℕ → RepoFault → Type 0
FetchFault f before now Failed = Rose before now
FetchFault f before now (Damaged kept found) = (kept ≡ f.digest) × (found ≢ kept) × ((bytes : List ℕ) × (length bytes ≡ f.len) × (sha256 bytes ≡ found))
FetchFault f before now Memory = ⊤

-- a fetch answers by the bytes that the record's places have: those bytes, or damage with their digest, or another fault
abbrev pub GivesRecord : Option (List ℕ) → Filed → Result (Vec ℕ Global) RepoFault → Type 0
GivesRecord told f (Ok v) = HasBytes told f.place v.items
GivesRecord told f (Err Failed) = ⊤
GivesRecord told f (Err (Damaged kept found)) = (bytes : List ℕ) × (length bytes ≡ f.len) × HasBytes told f.place bytes × (sha256 bytes ≡ found)
GivesRecord told f (Err Memory) = ⊤

-- an honest disk stays honest and changes no place at a fetch, which answers by what its places have
pub record FetchesRecord (old new : Option (List ℕ)) (is_honest : Bool) (f : Filed) (r : Result (Vec ℕ Global) RepoFault) : Type 0 where
  pub honest : IsTrue is_honest
  pub same : SamePlaces old new
  pub gives : GivesRecord old f r

-- the bytes, or a fault that isn't damage
abbrev pub GivesFiled : Result (Vec ℕ Global) RepoFault → List ℕ → Type 0
GivesFiled (Ok v) bytes = v.items ≡ bytes
GivesFiled (Err Failed) bytes = ⊤
GivesFiled (Err (Damaged kept found)) bytes = ⊥
GivesFiled (Err Memory) bytes = ⊤
