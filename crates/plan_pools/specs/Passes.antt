-- Programs whose routines are changed in their pools.
use Rattle.std.specs.Prelude.{◌≡◌, ◌≢◌, ◌<◌, ◌+◌, ◌*◌, ℕ, Bool, true, List, length, nat_eq, Option, Some, None, is_some, option_map, if◌then◌else◌, ⊤}
use Rattle.outside.specs.Faults.{Rose}
use Rattle.il_core.specs.Routine.{RoutineParts}
use Rattle.il_core.specs.Valid.{IsValid}
use Rattle.il_core.specs.declared.shape.ShapeRow.{ShapeRow}
use Rattle.il_laws.specs.Reach.{is_in}
use Rattle.compact_form.specs.Compact.{compact}
use Rattle.compact_form.specs.declared.body.RoutineBody.{RoutineBody}
use Rattle.naim_core.specs.declared.event.Failure.{Failure}
use Rattle.naim_core.specs.declared.event.Failure.TheVariants as failure
use Rattle.naim_loader.specs.Paged.{Paged, kept_at, IsTrusted}
use Rattle.one_owner.specs.Alone.{IsResting}
use Rattle.one_owner.specs.Going.{Stays}
use Rattle.plan_pools.specs.Contents.{routine_in}

-- the routines with those that are chosen changed
abbrev pub changed_at : (RoutineParts → RoutineParts) → (ℕ → Bool) → (ℕ → Option RoutineParts) → ℕ → Option RoutineParts
changed_at f chosen at q = if chosen q then option_map f (at q) else at q

-- the same PIDs have pools, whatever these have
pub record SamePools {T B D : Type 0} (faults : D → ℕ) (old new : Paged T B D) : Type 0 where
  pub stays : Stays faults old new
  pub has : (q : ℕ) → is_some (kept_at new q) ≡ is_some (kept_at old q)
  pub used : length new.core.pools ≡ length old.core.pools
  pub insertions : new.trail.insertions ≡ old.trail.insertions

module _ {B D : Type 0} (reach : D → ℕ) (honest : D → Bool) (faults : D → ℕ) (f : RoutineParts → RoutineParts) where
  -- The pools rest and are those that there were; over a trusted disk they have the routines that they had, but those that are
  -- chosen changed.
  pub record Changes (chosen : ℕ → Bool) (old new : Paged RoutineBody B D) : Type 0 where
    pub rests : IsResting new
    pub pools : SamePools faults old new
    pub routines : IsTrusted reach honest old → (q : ℕ) → routine_in new q ≡ changed_at f chosen (routine_in old) q

  -- the one of that PID
  abbrev pub ChangesOne : ℕ → Paged RoutineBody B D → Paged RoutineBody B D → Type 0
  ChangesOne p = Changes (nat_eq p)

  -- those of these PIDs
  abbrev pub ChangesAll : List ℕ → Paged RoutineBody B D → Paged RoutineBody B D → Type 0
  ChangesAll ps = Changes (is_in ps)

  -- Why the pools stopped while those that are chosen were changed: the disk's count rose; a record of a disk that isn't
  -- trusted has another SHA-256 than the one that was kept, or spells no such routine; over a trusted disk a chosen routine
  -- isn't valid with the shapes, or the compact form of a changed one is longer than the limit; or memory was wanting.
  abbrev pub ChangeCause : List ShapeRow → (ℕ → Bool) → Paged RoutineBody B D → ℕ → ℕ → Failure → Type 0
  ChangeCause rows chosen l before now failure.Repository = Rose before now
  ChangeCause rows chosen l before now (failure.Damaged place kept found) =
      (found ≢ kept) × ((p : ℕ) × (place ≡ p * l.core.limit)) × (IsTrusted reach honest l → ⊥)
  ChangeCause rows chosen l before now (failure.Unreadable place) = ((p : ℕ) × (place ≡ p * l.core.limit)) × (IsTrusted reach honest l → ⊥)
  ChangeCause rows chosen l before now (failure.Unfit p) =
      (chosen p ≡ true) × (IsTrusted reach honest l → (r : RoutineParts) → routine_in l p ≡ Some r → IsValid rows r → ⊥)
  ChangeCause rows chosen l before now (failure.TooSmall p need limit) =
      (chosen p ≡ true) × (limit ≡ l.core.limit) × (limit < need)
      × (IsTrusted reach honest l → (r : RoutineParts) → routine_in l p ≡ Some r → need ≡ length (compact (f r)))
  ChangeCause rows chosen l before now failure.Memory = ⊤

  -- the failure is kept from now on, for that cause; the disk is at home, and the same PIDs have pools
  pub record StopsChanging (rows : List ShapeRow) (chosen : ℕ → Bool) (old new : Paged RoutineBody B D) (e : Failure) : Type 0 where
    pub kept : new.core.failure ≡ Some e
    pub home : new.home ≡ true
    pub pools : SamePools faults old new
    pub cause : ChangeCause rows chosen old (faults old.disk) (faults new.disk) e

-- the pools of these PIDs are gone, and nothing else has changed
pub record Drops {T B D : Type 0} (faults : D → ℕ) (ps : List ℕ) (old new : Paged T B D) : Type 0 where
  pub rests : IsResting new
  pub stays : Stays faults old new
  pub kept : (q : ℕ) → kept_at new q ≡ (if is_in ps q then None else kept_at old q)
  pub used : length new.core.pools + length ps ≡ length old.core.pools
  pub insertions : new.trail.insertions ≡ old.trail.insertions
