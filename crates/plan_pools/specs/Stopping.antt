-- How pools are left where calls are inlined in them.
use Rattle.std.specs.Prelude.{◌≡◌, ◌≢◌, ◌<◌, ◌*◌, ℕ, Bool, true, Option, Some, ⊤}
use Rattle.outside.specs.Faults.{Rose}
use Rattle.il_core.specs.Routine.{RoutineParts}
use Rattle.compact_form.specs.declared.body.RoutineBody.{RoutineBody}
use Rattle.naim_core.specs.declared.event.Failure.{Failure}
use Rattle.naim_core.specs.declared.event.Failure.TheVariants as failure
use Rattle.naim_loader.specs.Paged.{Paged, IsTrusted}
use Rattle.one_owner.specs.Alone.{IsResting}
use Rattle.plan_pools.specs.Contents.{routine_in}
use Rattle.plan_pools.specs.Passes.{SamePools}

-- the pools rest, and the same PIDs have pools
pub record StillRests {T B D : Type 0} (faults : D → ℕ) (old new : Paged T B D) : Type 0 where
  pub rests : IsResting new
  pub pools : SamePools faults old new

module _ {B D : Type 0} (reach : D → ℕ) (honest : D → Bool) (faults : D → ℕ) where
  -- they do, and over a trusted disk, under a premise, these routines stand in them
  pub record Becomes (Premise : Type 0) (at : ℕ → Option RoutineParts) (old new : Paged RoutineBody B D) : Type 0 where
    pub rests : IsResting new
    pub pools : SamePools faults old new
    pub routines : IsTrusted reach honest old → Premise → (q : ℕ) → routine_in new q ≡ at q

  -- Why the pools stopped: the disk's count rose; a record of a disk that isn't trusted has another SHA-256 than the one that was
  -- kept, or spells no such routine; a routine is unfit, or its compact form is longer than the limit, for which there is evidence;
  -- or memory was wanting.
  abbrev pub InlineCause : (ℕ → Type 0) → (ℕ → ℕ → Type 0) → Paged RoutineBody B D → ℕ → ℕ → Failure → Type 0
  InlineCause unfit needs l before now failure.Repository = Rose before now
  InlineCause unfit needs l before now (failure.Damaged place kept found) =
      (found ≢ kept) × ((p : ℕ) × (place ≡ p * l.core.limit)) × (IsTrusted reach honest l → ⊥)
  InlineCause unfit needs l before now (failure.Unreadable place) = ((p : ℕ) × (place ≡ p * l.core.limit)) × (IsTrusted reach honest l → ⊥)
  InlineCause unfit needs l before now (failure.Unfit q) = unfit q
  InlineCause unfit needs l before now (failure.TooSmall q need limit) = (limit ≡ l.core.limit) × (limit < need) × needs q need
  InlineCause unfit needs l before now failure.Memory = ⊤

  -- the failure is kept from now on, for that cause; the disk is at home, and the same PIDs have pools
  pub record StopsInlining (unfit : ℕ → Type 0) (needs : ℕ → ℕ → Type 0) (old new : Paged RoutineBody B D) (e : Failure) : Type 0 where
    pub kept : new.core.failure ≡ Some e
    pub home : new.home ≡ true
    pub pools : SamePools faults old new
    pub cause : InlineCause unfit needs old (faults old.disk) (faults new.disk) e
