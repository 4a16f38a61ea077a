-- Why a call of one worker alone fails.
use Rattle.std.specs.Prelude.{◌≡◌, ◌≢◌, ◌<◌, ◌*◌, ℕ, Bool, List, length, Some, ⊤}
use Rattle.outside.specs.Faults.{Rose}
use Rattle.sha2.specs.Sha256.{sha256}
use Rattle.naim_core.specs.declared.event.Failure.{Failure}
use Rattle.naim_core.specs.declared.event.Failure.TheVariants as failure
use Rattle.naim_loader.specs.Paged.{Paged, content_at, IsTrusted}

-- a pool goes one form further: the disk's count rose, or memory was wanting
abbrev pub RoomCause : ℕ → ℕ → Failure → Type 0
RoomCause before now failure.Repository = Rose before now
RoomCause before now (failure.Damaged place kept found) = ⊥
RoomCause before now (failure.Unreadable place) = ⊥
RoomCause before now (failure.Unfit p) = ⊥
RoomCause before now (failure.TooSmall p need limit) = ⊥
RoomCause before now failure.Memory = ⊤

-- a new pool p, whose compact spelling has n bytes: the same, or they are more than the limit
abbrev pub PlaceCause : ℕ → ℕ → ℕ → ℕ → ℕ → Failure → Type 0
PlaceCause before now p n limit failure.Repository = Rose before now
PlaceCause before now p n limit (failure.Damaged place kept found) = ⊥
PlaceCause before now p n limit (failure.Unreadable place) = ⊥
PlaceCause before now p n limit (failure.Unfit q) = ⊥
PlaceCause before now p n limit (failure.TooSmall q need l) = (q ≡ p) × (need ≡ n) × (l ≡ limit) × (limit < n)
PlaceCause before now p n limit failure.Memory = ⊤

module _ {T B D : Type 0} (charge : T → ℕ) (spell : T → List ℕ) (is_value : T → Type 0) (reach : D → ℕ) (honest : D → Bool) where
  -- The disk isn't trusted: as many bytes as the record of p has were read at its place, whose SHA-256 isn't the kept one.
  pub record IsDamage (l : Paged T B D) (p place : ℕ) (kept found : List ℕ) : Type 0 where
    pub content : T
    pub there : content_at l p ≡ Some content
    pub place_is : place ≡ p * l.core.limit
    pub kept_is : kept ≡ sha256 (spell content)
    pub read : List ℕ
    pub long : length read ≡ length (spell content)
    pub found_is : found ≡ sha256 read
    pub differ : found ≢ kept
    pub distrusted : IsTrusted reach honest l → ⊥

  -- The disk isn't trusted: bytes of the kept length and SHA-256 were read at the record's place that spell no value of
  -- the kept charge.
  pub record IsUnreadable (l : Paged T B D) (p place : ℕ) : Type 0 where
    pub content : T
    pub there : content_at l p ≡ Some content
    pub place_is : place ≡ p * l.core.limit
    pub read : List ℕ
    pub long : length read ≡ length (spell content)
    pub same : sha256 read ≡ sha256 (spell content)
    pub spells_none : (v : T) → is_value v → spell v ≡ read → charge v ≢ charge content
    pub distrusted : IsTrusted reach honest l → ⊥

  -- a pool p is brought back: the disk's count rose, its record was damaged or spells no such body, or memory was wanting
  abbrev pub TakeCause : Paged T B D → ℕ → ℕ → ℕ → Failure → Type 0
  TakeCause l p before now failure.Repository = Rose before now
  TakeCause l p before now (failure.Damaged place kept found) = IsDamage l p place kept found
  TakeCause l p before now (failure.Unreadable place) = IsUnreadable l p place
  TakeCause l p before now (failure.Unfit q) = ⊥
  TakeCause l p before now (failure.TooSmall q need limit) = ⊥
  TakeCause l p before now failure.Memory = ⊤
