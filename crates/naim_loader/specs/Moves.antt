-- What is asked of a move that ends, and what its end answers.
use Rattle.std.specs.Prelude.{◌≡◌, ◌≤◌, ◌<◌, ◌+◌, ◌*◌, ◌⊎◌, ℕ, Bool, true, false, List, length, Option, Some, None, Err, is_none, unwrap_or, ⊤}
use Rattle.std.specs.Arc.{arc_value}
use Rattle.std.specs.declared.alloc.Global.{Global}
use Rattle.std.specs.declared.sync.Arc.{Arc}
use Rattle.outside.specs.Places.{Overwrites, SamePlaces}
use Rattle.repository.specs.Filing.{record_of}
use Rattle.repository.specs.Record.{HasBytes}
use Rattle.repository.specs.declared.filing.Filed.{Filed}
use Rattle.naim_core.specs.Charges.{under_sum}
use Rattle.naim_core.specs.State.{Core, pool_at, hand_at, victim}
use Rattle.naim_core.specs.Steps.{step_of}
use Rattle.naim_core.specs.declared.event.Event.TheVariants as event
use Rattle.naim_core.specs.declared.event.Mode.TheVariants as mode
use Rattle.naim_core.specs.declared.event.Refusal.TheVariants as refusal
use Rattle.naim_core.specs.declared.pool.Pool.{Pool}
use Rattle.naim_core.specs.declared.pool.Stage.{Stage}
use Rattle.naim_core.specs.declared.pool.Stage.TheVariants as stage
use Rattle.naim_loader.specs.declared.forms.Evict.{Evict}
use Rattle.naim_loader.specs.declared.forms.Evict.TheVariants as evict
use Rattle.naim_loader.specs.declared.forms.Move.{Move}
use Rattle.naim_loader.specs.declared.forms.Move.TheVariants as move
use Rattle.naim_loader.specs.declared.forms.Pin.{Pin}
use Rattle.naim_loader.specs.declared.forms.Pin.TheVariants as pin
use Rattle.naim_loader.specs.declared.forms.PinAnswer.{PinAnswer}
use Rattle.naim_loader.specs.declared.forms.PinAnswer.TheVariants as answer
use Rattle.naim_loader.specs.declared.table.Lying.{Lying}
use Rattle.naim_loader.specs.declared.table.Lying.TheVariants as lying
use Rattle.naim_loader.specs.Calls.{Back, KeepsAt, Stopped, disk_of}
use Rattle.naim_loader.specs.Paged.{Paged, kept_at, content_at, Changes, IsTrusted, Steps}
use Rattle.naim_loader.specs.Rows.{Kept}

-- the pool that a move is of
abbrev pub pid_of : {T D : Type 0} → Move T D → ℕ
pid_of (move.Compacting p a) = p
pid_of (move.Offloading p place b d) = p
pid_of (move.FromBytes p b) = p
pid_of (move.FromDisk p filed number d) = p

-- the worker w moves the pool p, which is at such a stage
pub record IsMoving (s : Core) (w p : ℕ) (At : Stage → Type 0) : Type 0 where
  pub pool : Pool
  pub at : pool_at s.pools p ≡ Some pool
  pub stage : At pool.stage
  pub hand : (hand_at s.hands w).moved ≡ Some p

module _ {T B D : Type 0} (spell : T → List ℕ) where
  -- What an eviction that begins hands out of the victim: its body, which is to be compacted, or its compact spelling
  -- with the place of its record and the disk, which it is to be written to.
  abbrev pub BeginsMove : Paged T B D → Paged T B D → ℕ → ℕ → Move T D → Type 0
  BeginsMove old new w wanted (move.Compacting p a) =
      (victim old.core.pools ≡ Some p) × Steps old (event.CompactBegin w p wanted) new × (content_at old p ≡ Some (arc_value a))
  BeginsMove old new w wanted (move.Offloading p place b d) =
      (victim old.core.pools ≡ Some p) × Steps old (event.OffloadBegin w p wanted) new × (place ≡ p * old.core.limit) × (d ≡ old.disk) ×
      (place + length b.items ≤ 131072 * old.core.limit)
      × ((r : T) × (content_at old p ≡ Some r) × (b.items ≡ spell r))
  BeginsMove old new w wanted (move.FromBytes p b) = ⊥
  BeginsMove old new w wanted (move.FromDisk p filed number d) = ⊥

  -- The answer to a wish for room: the bytes fit; or they don't, and then there is no victim, or the disk that it is to
  -- go to is out, or its move begins.
  abbrev pub AnswersEvict : Paged T B D → Paged T B D → ℕ → ℕ → Evict T D → Type 0
  AnswersEvict old new w wanted (evict.Begun m) = (old.core.limit < under_sum old.core.pools + wanted) × BeginsMove old new w wanted m
  AnswersEvict old new w wanted evict.Fits = (new ≡ old) × (old.core.failure ≡ None) × (under_sum old.core.pools + wanted ≤ old.core.limit)
  AnswersEvict old new w wanted evict.NoVictim = (new ≡ old) × (old.core.failure ≡ None) × (old.core.limit < under_sum old.core.pools + wanted) ×
      (victim old.core.pools ≡ None)
  AnswersEvict old new w wanted evict.DiskOut =
      (new ≡ old) × (old.core.limit < under_sum old.core.pools + wanted) ×
      ((p : ℕ) × (victim old.core.pools ≡ Some p) × (step_of old.core (event.OffloadBegin w p wanted) ≡ Err refusal.DiskOut))
  AnswersEvict old new w wanted evict.Stopped = Stopped old new

  -- the worker compacts that pool, has its body, and brings that body's compact spelling
  abbrev pub EndsCompaction : Paged T B D → ℕ → Move T D → List ℕ → Type 0
  EndsCompaction old w (move.Compacting p a) bytes = IsMoving old.core w p (λ st. st ≡ stage.Compacting) × (content_at old p ≡ Some (arc_value a)) ×
      (bytes ≡ spell (arc_value a))
  EndsCompaction old w _ bytes = ⊥

-- a reload
abbrev pub is_reload : {T D : Type 0} → Move T D → Bool
is_reload (move.FromBytes p b) = true
is_reload (move.FromDisk p filed number d) = true
is_reload _ = false

-- the stage of a pool that is reloaded: for reading exactly where a second share of the body is there, and from the disk or not
abbrev pub IsReloadingFor : {T : Type 0} → Option (Arc T Global) → Bool → Stage → Type 0
IsReloadingFor (Some a) from_disk st = st ≡ stage.Reloading mode.Read from_disk
IsReloadingFor None from_disk st = (room : ℕ) × (st ≡ stage.Reloading (mode.Write room) from_disk)

-- the pin that a reload gives: for reading exactly where a second share of the body is there
abbrev pub IsPinWith : {T : Type 0} → Option (Arc T Global) → ℕ → T → Pin T → Type 0
IsPinWith (Some a) p r (pin.Read x) = (x.pid ≡ p) × (arc_value x.body ≡ r)
IsPinWith (Some a) p r (pin.Write x) = ⊥
IsPinWith None p r (pin.Read x) = ⊥
IsPinWith None p r (pin.Write x) = (x.pid ≡ p) × (arc_value x.body ≡ r)

-- how the pool's body lies after it: whole where a second share is there, and with the worker otherwise
abbrev pub LiesWith : {T : Type 0} → Option (Arc T Global) → Lying T → T → Type 0
LiesWith (Some a) (lying.Whole b) r = arc_value b ≡ r
LiesWith (Some a) _ r = ⊥
LiesWith None b r = ⊤

module _ {T B D : Type 0} (spell : T → List ℕ) (bytes : D → Option (List ℕ)) (reach : D → ℕ) (honest : D → Bool) where
  -- The worker offloads that pool, has its bytes and its place, and brings the record of these bytes there; a trusted
  -- disk has them there, and elsewhere what it told when it was lent.
  abbrev pub EndsOffload : Paged T B D → ℕ → Move T D → Filed → Type 0
  EndsOffload old w (move.Offloading p place b d) filed =
      IsMoving old.core w p (λ st. st ≡ stage.Offloading) × (place ≡ p * old.core.limit) × (filed ≡ record_of place b.items)
      × ((k : T) × (content_at old p ≡ Some k) × (b.items ≡ spell k))
      × (IsTrusted reach honest old → Overwrites (bytes old.disk) (bytes d) place (length b.items) b.items)
  EndsOffload old w _ filed = ⊥

module _ {T B D : Type 0} (charge : T → ℕ) (spell : T → List ℕ) (bytes : D → Option (List ℕ)) (reach : D → ℕ) (honest : D → Bool) where
  -- The value r that a reload brings, of the pool p, which has the value k: it has the spelling of k where it came from
  -- memory; and where it came from the disk, it has the charge and length of k, and a trusted disk, which has what it told
  -- when it was lent, has the spelling of r at the record's place.
  abbrev pub Brings : Paged T B D → ℕ → Option D → T → T → Type 0
  Brings old p None r k = spell r ≡ spell k
  Brings old p (Some d) r k = (charge r ≡ charge k) × (length (spell r) ≡ length (spell k))
      × (IsTrusted reach honest old → SamePlaces (bytes old.disk) (bytes d) × HasBytes (bytes d) (p * old.core.limit) (spell r))

  -- The worker reloads that pool, has its bytes or its record, and brings a body: of those bytes; or of the record's
  -- length and charge, and over a trusted disk, which has what it told when it was lent, of the bytes at the record's
  -- place.
  abbrev pub EndsReload : Paged T B D → ℕ → Move T D → T → Option (Arc T Global) → Type 0
  EndsReload old w (move.FromBytes p b) r again =
      IsMoving old.core w p (IsReloadingFor again false) × (b.items ≡ spell r) × ((k : T) × (content_at old p ≡ Some k) × (b.items ≡ spell k))
  EndsReload old w (move.FromDisk p filed number d) r again =
      IsMoving old.core w p (IsReloadingFor again true) × (length (spell r) ≡ filed.len) × (charge r ≡ number)
      × ((k : T) × (content_at old p ≡ Some k) × (filed ≡ record_of (p * old.core.limit) (spell k)) × (number ≡ charge k))
      × (IsTrusted reach honest old → SamePlaces (bytes old.disk) (bytes d) × HasBytes (bytes d) (p * old.core.limit) (spell r))
  EndsReload old w (move.Compacting p a) r again = ⊥
  EndsReload old w (move.Offloading p place b d) r again = ⊥

module _ {T B D : Type 0} (charge : T → ℕ) (spell : T → List ℕ) (reach : D → ℕ) (honest : D → Bool) where
  -- A reload has ended: the pool has the body that was brought, of its charge and compact length. Where it came from
  -- bytes in memory, or the disk is trusted, that is the value that it had.
  pub record Reloads (old new : Paged T B D) (w p : ℕ) (d : Option D) (r : T) : Type 0 where
    pub was : Kept T B
    pub there : kept_at old p ≡ Some was
    pub event : Changes old (event.ReloadEnd w p) new
    pub disk_is : new.disk ≡ unwrap_or d old.disk
    pub kept : KeepsAt old new p (Some (record was { value = r }))
    pub charge_same : charge r ≡ charge was.value
    pub length_same : length (spell r) ≡ length (spell was.value)
    pub same : (is_none d ≡ true) ⊎ IsTrusted reach honest old → r ≡ was.value

  -- the answer to the end of a reload
  abbrev pub AnswersReload : Paged T B D → Paged T B D → ℕ → Move T D → T → Option (Arc T Global) → PinAnswer T D → Type 0
  AnswersReload old new w m r again (answer.Ready x) = Reloads old new w (pid_of m) (disk_of m) r × IsPinWith again (pid_of m) r x
  AnswersReload old new w m r again answer.Stopped = Back old (disk_of m) new
  AnswersReload old new w m r again _ = ⊥

-- an offload has ended: the disk that came home has the pool, and nothing else has changed
pub record Offloads {T B D : Type 0} (old new : Paged T B D) (w p : ℕ) (d : D) : Type 0 where
  pub event : Changes old (event.OffloadEnd w p) new
  pub disk_is : new.disk ≡ d
  pub kept_same : new.kept ≡ old.kept

-- that end of an offload
abbrev pub OffloadsFrom : {T B D : Type 0} → Paged T B D → Paged T B D → ℕ → Move T D → Type 0
OffloadsFrom old new w (move.Offloading p place b d) = Offloads old new w p d
OffloadsFrom old new w _ = ⊥
