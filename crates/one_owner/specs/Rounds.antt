-- The rounds that make room.
use Rattle.std.specs.Prelude.{◌≡◌, ◌<◌, ◌≤◌, ◌+◌, ◌*◌, ◌^◌, ℕ, Bool, true, false, List, length, Some, None, sum_by}
use Rattle.std.specs.Arc.{arc_value}
use Rattle.std.specs.Map.{values_of}
use Rattle.std.specs.declared.alloc.Global.{Global}
use Rattle.std.specs.declared.sync.Arc.{Arc}
use Rattle.naim_core.specs.Charges.{under_sum}
use Rattle.naim_core.specs.Rows.{bytes_of}
use Rattle.naim_core.specs.Sound.{IsSound}
use Rattle.naim_core.specs.State.{Core}
use Rattle.naim_core.specs.declared.event.Form.{Form}
use Rattle.naim_core.specs.declared.pool.Stage.{Stage}
use Rattle.naim_core.specs.declared.pool.Stage.TheVariants as stage
use Rattle.naim_loader.specs.declared.forms.Move.{Move}
use Rattle.naim_loader.specs.declared.forms.Move.TheVariants as move
use Rattle.naim_loader.specs.Moves.{IsMoving}
use Rattle.naim_loader.specs.Paged.{Paged, content_at, IsGood, IsTrusted}
use Rattle.one_owner.specs.Alone.{IsAlone, Works, idle}
use Rattle.one_owner.specs.Going.{Keeps, KeepsWritten}

-- how many forms a pool that nobody holds can still go further
abbrev pub forms_left : Stage → ℕ
forms_left stage.Free = 2
forms_left (stage.Read readers) = 0
forms_left (stage.Written room) = 0
forms_left stage.Compacted = 1
forms_left stage.Offloaded = 0
forms_left stage.Compacting = 1
forms_left stage.Offloading = 0
forms_left (stage.Reloading m from_disk) = 0

-- how many rounds are left, over all pools
abbrev pub rounds_left : Core → ℕ
rounds_left s = sum_by (λ x. forms_left x.stage) (values_of s.pools)

-- the form's bytes fit, and a compact spelling is at most as long as the limit
pub record HasRoom {T B D : Type 0} (l : Paged T B D) (f : Form) (e c : ℕ) : Type 0 where
  pub short : c ≤ l.core.limit
  pub fits : under_sum l.core.pools + bytes_of f e c ≤ l.core.limit

-- worker 0 moves p beside what else it has, and no failure is kept
pub record MovesBeside {T B D : Type 0} (l : Paged T B D) (p : ℕ) (At : Stage → Type 0) : Type 0 where
  pub alone : IsAlone l.core (record (idle l.core) { moved = Some p })
  pub running : l.core.failure ≡ None
  pub sound : IsSound l.core
  pub moving : IsMoving l.core 0 p At

-- the compaction of p has begun, and this is its body
pub record IsCompacting {T B D : Type 0} (l : Paged T B D) (p : ℕ) (a : Arc T Global) : Type 0 where
  pub moves : MovesBeside l p (λ st. st ≡ stage.Compacting)
  pub home : l.home ≡ true
  pub disk : l.core.disk ≡ None
  pub content : content_at l p ≡ Some (arc_value a)

module _ {T B D : Type 0} (spell : T → List ℕ) (reach : D → ℕ) (honest : D → Bool) where
  -- The offload of p has begun: this is the place of its record, its compact spelling, and the disk, which is out.
  pub record IsOffloading (l : Paged T B D) (p place : ℕ) (b : List ℕ) (d : D) : Type 0 where
    pub moves : MovesBeside l p (λ st. st ≡ stage.Offloading)
    pub out : l.home ≡ false
    pub disk_is : d ≡ l.disk
    pub place_is : place ≡ p * l.core.limit
    pub within : place + length b ≤ 131072 * l.core.limit
    pub small : l.core.limit ≤ 2 ^ 30
    pub short : length b ≤ l.core.limit
    pub content : (r : T) × (content_at l p ≡ Some r) × (b ≡ spell r)
    pub good : IsTrusted reach honest l → IsGood reach honest l.core.limit d

  -- an eviction's move has begun
  abbrev pub Begins : Paged T B D → Move T D → Type 0
  Begins l (move.Compacting p a) = IsCompacting l p a
  Begins l (move.Offloading p place b d) = IsOffloading l p place b.items d
  Begins l (move.FromBytes p b) = ⊥
  Begins l (move.FromDisk p filed number d) = ⊥

-- the move has ended: worker 0 has no move, all pools are the same, and as many rounds are left
pub record Turn {T B D : Type 0} (faults : D → ℕ) (old new : Paged T B D) : Type 0 where
  pub works : Works new (idle old.core)
  pub keeps : Keeps faults old new
  pub written : KeepsWritten old new
  pub left : rounds_left new.core ≡ rounds_left old.core

-- a round has ended: the bytes fit, or fewer rounds are left
pub record Round {T B D : Type 0} (faults : D → ℕ) (old new : Paged T B D) (wanted : ℕ) (fits : Bool) : Type 0 where
  pub works : Works new (idle old.core)
  pub keeps : Keeps faults old new
  pub written : KeepsWritten old new
  pub room : fits ≡ true → under_sum new.core.pools + wanted ≤ new.core.limit
  pub fewer : fits ≡ false → rounds_left new.core < rounds_left old.core
