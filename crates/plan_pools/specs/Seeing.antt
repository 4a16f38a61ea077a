-- Routines that are looked at in their pools.
use Rattle.std.specs.Prelude.{◌≡◌, ◌≢◌, ◌*◌, ℕ, Bool, true, List, Some, ⊤}
use Rattle.outside.specs.Faults.{Rose}
use Rattle.il_core.specs.Routine.{RoutineParts}
use Rattle.il_core.specs.Valid.{IsValid}
use Rattle.il_core.specs.declared.shape.ShapeRow.{ShapeRow}
use Rattle.compact_form.specs.declared.body.RoutineBody.{RoutineBody}
use Rattle.naim_core.specs.declared.event.Failure.{Failure}
use Rattle.naim_core.specs.declared.event.Failure.TheVariants as failure
use Rattle.naim_loader.specs.Paged.{Paged, IsTrusted}
use Rattle.plan_pools.specs.Contents.{routine_in}
use Rattle.plan_pools.specs.Printing.{Reads}

-- why r, of the pool p, which is held, wasn't looked at: the disk's count rose as it went back, it isn't valid with the shapes, or
-- memory was wanting
abbrev pub SeenCause : List ShapeRow → ℕ → RoutineParts → ℕ → ℕ → Failure → Type 0
SeenCause rows p r before now failure.Repository = Rose before now
SeenCause rows p r before now (failure.Damaged place kept found) = ⊥
SeenCause rows p r before now (failure.Unreadable place) = ⊥
SeenCause rows p r before now (failure.Unfit q) = (q ≡ p) × (IsValid rows r → ⊥)
SeenCause rows p r before now (failure.TooSmall q need limit) = ⊥
SeenCause rows p r before now failure.Memory = ⊤

module _ {B D : Type 0} (reach : D → ℕ) (honest : D → Bool) (faults : D → ℕ) where
  -- Why the pools stopped while those that are chosen were looked at: the disk's count rose; a record of a disk that isn't
  -- trusted has another SHA-256 than the one that was kept, or spells no such routine; over a trusted disk a chosen routine
  -- isn't valid with the shapes; or memory was wanting.
  abbrev pub SeeCause : List ShapeRow → (ℕ → Bool) → Paged RoutineBody B D → ℕ → ℕ → Failure → Type 0
  SeeCause rows chosen l before now failure.Repository = Rose before now
  SeeCause rows chosen l before now (failure.Damaged place kept found) =
      (found ≢ kept) × ((p : ℕ) × (place ≡ p * l.core.limit)) × (IsTrusted reach honest l → ⊥)
  SeeCause rows chosen l before now (failure.Unreadable place) = ((p : ℕ) × (place ≡ p * l.core.limit)) × (IsTrusted reach honest l → ⊥)
  SeeCause rows chosen l before now (failure.Unfit p) =
      (chosen p ≡ true) × (IsTrusted reach honest l → (r : RoutineParts) → routine_in l p ≡ Some r → IsValid rows r → ⊥)
  SeeCause rows chosen l before now (failure.TooSmall p need limit) = ⊥
  SeeCause rows chosen l before now failure.Memory = ⊤

  -- the failure is kept from now on, for that cause; the disk is at home, and the pools are the same
  pub record StopsSeeing (rows : List ShapeRow) (chosen : ℕ → Bool) (old new : Paged RoutineBody B D) (e : Failure) : Type 0 where
    pub kept : new.core.failure ≡ Some e
    pub home : new.home ≡ true
    pub reads : Reads reach honest faults old new
    pub cause : SeeCause rows chosen old (faults old.disk) (faults new.disk) e
