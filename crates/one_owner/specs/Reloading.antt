-- Reloads that are under way.
use Rattle.std.specs.Prelude.{◌≡◌, ◌≤◌, ◌+◌, ◌*◌, ◌^◌, ◌⊎◌, ℕ, Bool, true, false, List, length, Option, Some, None, is_some, ⊤}
use Rattle.std.specs.Arc.{arc_value}
use Rattle.std.specs.declared.alloc.Global.{Global}
use Rattle.std.specs.declared.sync.Arc.{Arc}
use Rattle.outside.specs.Places.{SamePlaces}
use Rattle.sha2.specs.Sha256.{sha256}
use Rattle.repository.specs.Filing.{record_of}
use Rattle.repository.specs.Record.{HasBytes}
use Rattle.repository.specs.declared.filing.Filed.{Filed}
use Rattle.repository.specs.declared.filing.RepoFault.{RepoFault}
use Rattle.repository.specs.declared.filing.RepoFault.TheVariants as fault
use Rattle.naim_core.specs.Rows.{pinned_for}
use Rattle.naim_core.specs.State.{empty_hand}
use Rattle.naim_core.specs.Steps.{take_pin}
use Rattle.naim_core.specs.declared.event.Failure.{Failure}
use Rattle.naim_core.specs.declared.event.Failure.TheVariants as failure
use Rattle.naim_core.specs.declared.event.Mode.{Mode}
use Rattle.naim_core.specs.declared.event.Mode.TheVariants as mode
use Rattle.naim_core.specs.declared.pool.Stage.TheVariants as stage
use Rattle.naim_loader.specs.declared.forms.Move.{Move}
use Rattle.naim_loader.specs.declared.forms.Move.TheVariants as move
use Rattle.naim_loader.specs.declared.forms.Pin.{Pin}
use Rattle.naim_loader.specs.declared.forms.Pin.TheVariants as pin
use Rattle.naim_loader.specs.Calls.{ComesBack, KeepsAt, brought, disk_of, stage_at}
use Rattle.naim_loader.specs.Contents.{HasPin}
use Rattle.naim_loader.specs.Moves.{EndsReload, IsMoving, pid_of}
use Rattle.naim_loader.specs.Paged.{Paged, content_at, kept_at, IsTrusted}
use Rattle.naim_loader.specs.Rows.{Kept}
use Rattle.one_owner.specs.Alone.{IsAlone, Works, charge_at, pinned}
use Rattle.one_owner.specs.Going.{Stays}

-- a pin for reading
abbrev pub IsReadPin : {T : Type 0} → Pin T → Type 0
IsReadPin (pin.Read x) = ⊤
IsReadPin (pin.Write x) = ⊥

-- a pin for writing
abbrev pub IsWritePin : {T : Type 0} → Pin T → Type 0
IsWritePin (pin.Read x) = ⊥
IsWritePin (pin.Write x) = ⊤

-- a pin of that mode, of p
abbrev pub IsPinFor : {T : Type 0} → Mode → ℕ → Pin T → Type 0
IsPinFor mode.Read p (pin.Read x) = x.pid ≡ p
IsPinFor mode.Read p (pin.Write x) = ⊥
IsPinFor (mode.Write room) p (pin.Read x) = ⊥
IsPinFor (mode.Write room) p (pin.Write x) = x.pid ≡ p

-- the body that a pin has
abbrev pub pin_value : {T : Type 0} → Pin T → T
pin_value (pin.Read x) = arc_value x.body
pin_value (pin.Write x) = arc_value x.body

-- the second share of a body, which is handed in where it is reloaded for reading
abbrev pub again_for : {T : Type 0} → Mode → Arc T Global → Option (Arc T Global)
again_for mode.Read a = Some a
again_for (mode.Write room) a = None

abbrev pub IsAgain : {T : Type 0} → Mode → T → Option (Arc T Global) → Type 0
IsAgain mode.Read r (Some a) = arc_value a ≡ r
IsAgain mode.Read r None = ⊥
IsAgain (mode.Write room) r (Some a) = ⊥
IsAgain (mode.Write room) r None = ⊤

-- what a fetch's fault is to the loader
abbrev pub failure_of : ℕ → RepoFault → Failure
failure_of place fault.Failed = failure.Repository
failure_of place (fault.Damaged kept found) = failure.Damaged place kept found
failure_of place fault.Memory = failure.Memory

module _ {T B D : Type 0} (reach : D → ℕ) (honest : D → Bool) (faults : D → ℕ) where
  -- Worker 0 reloads the move's pool for a pin of that mode and holds nothing else; where the move carries no disk it is at home.
  pub record IsUnderway (l : Paged T B D) (kind : Mode) (m : Move T D) : Type 0 where
    pub alone : IsAlone l.core (take_pin kind (pid_of m) empty_hand)
    pub moving : IsMoving l.core 0 (pid_of m) (λ st. st ≡ stage.Reloading kind (is_some (disk_of m)))
    pub running : l.core.failure ≡ None
    pub home : (brought l (disk_of m)).home ≡ true
    pub later : faults l.disk ≤ faults (brought l (disk_of m)).disk
    pub back : ComesBack reach honest l (disk_of m)

module _ {T B D : Type 0} (charge : T → ℕ) (spell : T → List ℕ) (is_value : T → Type 0) (bytes : D → Option (List ℕ)) (reach : D → ℕ) (honest : D → Bool)
    (faults : D → ℕ) where
  -- p is reloaded from its compact spelling in memory
  pub record IsUnpacked (l : Paged T B D) (p : ℕ) (b : List ℕ) : Type 0 where
    pub content : T
    pub there : content_at l p ≡ Some content
    pub value : is_value content
    pub spelled : b ≡ spell content

  -- p is reloaded from its record, whose spelling a trusted disk has
  pub record IsRestored (l : Paged T B D) (p : ℕ) (filed : Filed) (number : ℕ) (d : D) : Type 0 where
    pub content : T
    pub there : content_at l p ≡ Some content
    pub value : is_value content
    pub filed_is : filed ≡ record_of (p * l.core.limit) (spell content)
    pub charge_is : number ≡ charge content
    pub within : p * l.core.limit + length (spell content) ≤ 131072 * l.core.limit
    pub small : l.core.limit ≤ 2 ^ 30
    pub has : IsTrusted reach honest l → SamePlaces (bytes l.disk) (bytes d) × HasBytes (bytes d) (p * l.core.limit) (spell content)

  -- a reload has begun
  abbrev pub IsReload : Paged T B D → Move T D → Type 0
  IsReload l (move.FromBytes p b) = IsUnpacked l p b.items
  IsReload l (move.FromDisk p filed number d) = IsRestored l p filed number d
  IsReload l (move.Compacting p a) = ⊥
  IsReload l (move.Offloading p place b d) = ⊥

  -- the bytes that were read have the record's length and SHA-256; from a trusted disk they are the spelling that was filed
  pub record IsFetched (l : Paged T B D) (p : ℕ) (filed : Filed) (b : List ℕ) : Type 0 where
    pub long : length b ≡ filed.len
    pub digest : sha256 b ≡ filed.digest
    pub told : IsTrusted reach honest l → (r : T) → content_at l p ≡ Some r → b ≡ spell r

  -- the body ends the reload
  abbrev pub EndsBy : Paged T B D → Mode → Move T D → T → Type 0
  EndsBy l kind m r = is_value r × ((a : Arc T Global) → EndsReload charge spell bytes reach honest l 0 m r (again_for kind a))

-- A reload has ended: worker 0 has p pinned in that mode, and the pin and the pool have that body; where it came from memory,
-- or the disk is trusted, it is the value that the pool had.
pub record Reloaded {T B D : Type 0} (reach : D → ℕ) (honest : D → Bool) (faults : D → ℕ) (old new : Paged T B D) (kind : Mode) (p : ℕ) (from_disk : Bool)
    (x : Pin T) : Type 0 where
  pub is : IsPinFor kind p x
  pub works : Works new (pinned kind p)
  pub stage_is : stage_at new p ≡ Some (pinned_for kind)
  pub charge_same : charge_at new p ≡ charge_at old p
  pub pin : HasPin new 0 x
  pub stays : Stays faults old new
  pub was : Kept T B
  pub there : kept_at old p ≡ Some was
  pub kept : KeepsAt old new p (Some (record was { value = pin_value x }))
  pub same : (from_disk ≡ false) ⊎ IsTrusted reach honest old → pin_value x ≡ was.value
  pub used : length new.core.pools ≡ length old.core.pools
  pub insertions : new.trail.insertions ≡ old.trail.insertions
