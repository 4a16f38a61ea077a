-- What the calls of one worker alone answer.
use Rattle.std.specs.Prelude.{◌≡◌, ◌≤◌, ◌+◌, ℕ, Bool, ◌∷◌, [], ◌++◌, length, Some, None}
use Rattle.std.specs.Arc.{arc_value}
use Rattle.naim_core.specs.declared.pool.Stage.TheVariants as stage
use Rattle.naim_loader.specs.declared.forms.Pin.TheVariants as pin
use Rattle.naim_loader.specs.declared.forms.ReadPin.{ReadPin}
use Rattle.naim_loader.specs.declared.forms.WritePin.{WritePin}
use Rattle.naim_loader.specs.Calls.{KeepsAt, stage_at}
use Rattle.naim_loader.specs.Contents.{HasPin}
use Rattle.naim_loader.specs.Paged.{Paged, kept_at, IsTrusted}
use Rattle.naim_loader.specs.Rows.{Kept}
use Rattle.one_owner.specs.Alone.{IsReading, IsResting, IsWriting, charge_at}
use Rattle.one_owner.specs.Going.{Keeps, Stays}

-- p is a new pool with that value and that brief, and nothing else has changed
pub record Places {T B D : Type 0} (faults : D → ℕ) (old new : Paged T B D) (p : ℕ) (r : T) (brief : B) : Type 0 where
  pub rests : IsResting new
  pub stays : Stays faults old new
  pub kept : KeepsAt old new p (Some (record { value = r; brief = brief }))
  pub used : length new.core.pools ≡ length old.core.pools + 1
  pub insertions : new.trail.insertions ≡ old.trail.insertions ++ p ∷ []

-- Worker 0 reads p, whose body the pin has. Where the pool was in memory or the disk is trusted, it is the value that the
-- pool had; else that pool has the pin's body from now on. Nothing else has changed.
pub record Takes {T B D : Type 0} (reach : D → ℕ) (honest : D → Bool) (faults : D → ℕ) (old new : Paged T B D) (p : ℕ) (x : ReadPin T) : Type 0 where
  pub pid : x.pid ≡ p
  pub reads : IsReading new p
  pub pin : HasPin new 0 (pin.Read x)
  pub stays : Stays faults old new
  pub was : Kept T B
  pub there : kept_at old p ≡ Some was
  pub kept : KeepsAt old new p (Some (record was { value = arc_value x.body }))
  pub same : (stage_at old p ≡ Some stage.Offloaded → IsTrusted reach honest old) → arc_value x.body ≡ was.value
  pub used : length new.core.pools ≡ length old.core.pools
  pub insertions : new.trail.insertions ≡ old.trail.insertions

-- the pin is given back: all hands are empty, and all pools are the same
pub record GivesBack {T B D : Type 0} (faults : D → ℕ) (old new : Paged T B D) : Type 0 where
  pub rests : IsResting new
  pub keeps : Keeps faults old new

-- Worker 0 writes p with that room, and the pin has its body. Where the pool was in memory or the disk is trusted, it is
-- the value that the pool had; else that pool has the pin's body from now on. Nothing else has changed.
pub record TakesToWrite {T B D : Type 0} (reach : D → ℕ) (honest : D → Bool) (faults : D → ℕ) (old new : Paged T B D) (p room : ℕ) (x : WritePin T) : Type 0
  where
    pub pid : x.pid ≡ p
    pub writes : IsWriting new p
    pub room_is : stage_at new p ≡ Some (stage.Written room)
    pub charge_same : charge_at new p ≡ charge_at old p
    pub pin : HasPin new 0 (pin.Write x)
    pub stays : Stays faults old new
    pub was : Kept T B
    pub there : kept_at old p ≡ Some was
    pub kept : KeepsAt old new p (Some (record was { value = arc_value x.body }))
    pub same : (stage_at old p ≡ Some stage.Offloaded → IsTrusted reach honest old) → arc_value x.body ≡ was.value
    pub used : length new.core.pools ≡ length old.core.pools
    pub insertions : new.trail.insertions ≡ old.trail.insertions

-- the writer of p stated a room of at least n bytes
pub record HasStated {T B D : Type 0} (l : Paged T B D) (p n : ℕ) : Type 0 where
  pub room : ℕ
  pub stage_is : stage_at l p ≡ Some (stage.Written room)
  pub within : n ≤ room

-- p has that value and that brief from now on, all hands are empty, and nothing else has changed
pub record Rewrites {T B D : Type 0} (faults : D → ℕ) (old new : Paged T B D) (p : ℕ) (r : T) (brief : B) : Type 0 where
  pub rests : IsResting new
  pub stays : Stays faults old new
  pub kept : KeepsAt old new p (Some (record { value = r; brief = brief }))
  pub used : length new.core.pools ≡ length old.core.pools
  pub insertions : new.trail.insertions ≡ old.trail.insertions

-- p is gone, and nothing else has changed
pub record TakesAway {T B D : Type 0} (faults : D → ℕ) (old new : Paged T B D) (p : ℕ) : Type 0 where
  pub rests : IsResting new
  pub stays : Stays faults old new
  pub kept : KeepsAt old new p None
  pub used : length new.core.pools + 1 ≡ length old.core.pools
  pub insertions : new.trail.insertions ≡ old.trail.insertions
