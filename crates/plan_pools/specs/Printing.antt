-- A program that is printed from pools.
use Rattle.std.specs.Prelude.{◌≡◌, ◌≢◌, ◌*◌, ℕ, Bool, true, length, Some, Result, Ok, Err, is_some, ⊤}
use Rattle.outside.specs.Faults.{Rose}
use Rattle.naim_core.specs.declared.event.Failure.{Failure}
use Rattle.naim_core.specs.declared.event.Failure.TheVariants as failure
use Rattle.naim_loader.specs.Paged.{Paged, kept_at, IsTrusted}
use Rattle.one_owner.specs.Alone.{IsResting}
use Rattle.one_owner.specs.Going.{Stays}
use Rattle.plan_pools.specs.declared.printing.PrintFault.{PrintFault}
use Rattle.plan_pools.specs.declared.printing.PrintFault.TheVariants as fault

module _ {T B D : Type 0} (reach : D → ℕ) (honest : D → Bool) (faults : D → ℕ) where
  -- The pools are the same, and over a trusted disk they have what they had.
  pub record Reads (old new : Paged T B D) : Type 0 where
    pub stays : Stays faults old new
    pub same : IsTrusted reach honest old → (q : ℕ) → kept_at new q ≡ kept_at old q
    pub has : (q : ℕ) → is_some (kept_at new q) ≡ is_some (kept_at old q)
    pub used : length new.core.pools ≡ length old.core.pools
    pub insertions : new.trail.insertions ≡ old.trail.insertions

  -- why the pools stopped: the disk's count rose; or a record of a disk that isn't trusted has another SHA-256 than the one
  -- that was kept, or spells no such routine; or memory was wanting
  abbrev pub ReadCause : Paged T B D → ℕ → ℕ → Failure → Type 0
  ReadCause l before now failure.Repository = Rose before now
  ReadCause l before now (failure.Damaged place kept found) = (found ≢ kept) × ((p : ℕ) × (place ≡ p * l.core.limit)) × (IsTrusted reach honest l → ⊥)
  ReadCause l before now (failure.Unreadable place) = ((p : ℕ) × (place ≡ p * l.core.limit)) × (IsTrusted reach honest l → ⊥)
  ReadCause l before now (failure.Unfit p) = ⊥
  ReadCause l before now (failure.TooSmall p need limit) = ⊥
  ReadCause l before now failure.Memory = ⊤

  -- the failure is kept from now on, and the disk is at home
  pub record StopsReading (old new : Paged T B D) (f : Failure) : Type 0 where
    pub kept : new.core.failure ≡ Some f
    pub home : new.home ≡ true
    pub reads : Reads old new
    pub cause : ReadCause old (faults old.disk) (faults new.disk) f

  -- the pools rest again
  pub record Rests (old new : Paged T B D) : Type 0 where
    pub rests : IsResting new
    pub reads : Reads old new

  -- how the pools are left
  abbrev pub Leaves : {X : Type 0} → Paged T B D → Paged T B D → Result X PrintFault → Type 0
  Leaves old new (Ok u) = Rests old new
  Leaves old new (Err fault.Output) = Rests old new
  Leaves old new (Err (fault.Stopped f)) = StopsReading old new f

-- the sink's count rose where it failed
abbrev pub OutputCause : {X : Type 0} → ℕ → ℕ → Result X PrintFault → Type 0
OutputCause before now (Ok u) = ⊤
OutputCause before now (Err fault.Output) = Rose before now
OutputCause before now (Err (fault.Stopped f)) = ⊤

-- the pools stopped
abbrev pub IsStopped : PrintFault → Type 0
IsStopped (fault.Stopped f) = ⊤
IsStopped fault.Output = ⊥
