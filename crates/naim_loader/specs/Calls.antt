-- What the loader's calls answer.
use Rattle.std.specs.Prelude.{◌≡◌, ◌≤◌, ◌+◌, ◌*◌, ◌^◌, ◌⊎◌, ℕ, Bool, true, false, cond, List, [], ◌∷◌, ◌++◌, Option, Some, None, IsSome, Ok, Err, IsOk}
use Rattle.std.specs.Prelude.{Result, Vec, is_some, is_none, length, nat_eq, slice_get, ⊤, option_map}
use Rattle.std.specs.Arc.{arc_value}
use Rattle.repository.specs.Record.{HasBytes}
use Rattle.repository.specs.Filing.{record_of}
use Rattle.naim_core.specs.Charges.{room_of}
use Rattle.naim_core.specs.Rows
use Rattle.naim_core.specs.State.{Core, hand_at, pool_at}
use Rattle.naim_core.specs.Steps.{step_of, failed}
use Rattle.naim_core.specs.declared.event.Event.{Event}
use Rattle.naim_core.specs.declared.event.Event.TheVariants as event
use Rattle.naim_core.specs.declared.event.Failure.{Failure}
use Rattle.naim_core.specs.declared.event.Failure.TheVariants as failure
use Rattle.naim_core.specs.declared.event.Form.{Form}
use Rattle.naim_core.specs.declared.event.Form.TheVariants as form
use Rattle.naim_core.specs.declared.event.Mode.{Mode}
use Rattle.naim_core.specs.declared.event.Mode.TheVariants as mode
use Rattle.naim_core.specs.declared.event.Refusal.TheVariants as refusal
use Rattle.naim_core.specs.declared.pool.Stage.{Stage}
use Rattle.naim_core.specs.declared.pool.Stage.TheVariants as stage
use Rattle.naim_loader.specs.declared.forms.Draft.{Draft}
use Rattle.naim_loader.specs.declared.forms.Move.{Move}
use Rattle.naim_loader.specs.declared.forms.Move.TheVariants as move
use Rattle.naim_loader.specs.declared.forms.Pin.{Pin}
use Rattle.naim_loader.specs.declared.forms.Pin.TheVariants as pin
use Rattle.naim_loader.specs.declared.forms.PinAnswer.{PinAnswer}
use Rattle.naim_loader.specs.declared.forms.PinAnswer.TheVariants as answer
use Rattle.naim_loader.specs.declared.forms.ReadPin.{ReadPin}
use Rattle.naim_loader.specs.declared.forms.WritePin.{WritePin}
use Rattle.std.specs.declared.alloc.Global.{Global}
use Rattle.naim_loader.specs.declared.forms.Put.{Put}
use Rattle.naim_loader.specs.declared.forms.Put.TheVariants as put
use Rattle.naim_loader.specs.Counting.{counted}
use Rattle.naim_loader.specs.Drafts.{draft_value, draft_form}
use Rattle.naim_loader.specs.Paged.{Paged, kept_at, content_at, Steps, Changes, IsGood, IsTrusted}
use Rattle.naim_loader.specs.Rows.{Kept}

-- what is kept of p is now k, and of every other pool what it was
abbrev pub KeepsAt : {T B D : Type 0} → Paged T B D → Paged T B D → ℕ → Option (Kept T B) → Type 0
KeepsAt old new p k = (q : ℕ) → kept_at new q ≡ cond (nat_eq p q) k (kept_at old q)

-- the stage of the pool p
abbrev pub stage_at : {T B D : Type 0} → Paged T B D → ℕ → Option Stage
stage_at l p = option_map (λ x. x.stage) (pool_at l.core.pools p)

-- the brief of the pool p
abbrev pub brief_at : {T B D : Type 0} → Paged T B D → ℕ → Option B
brief_at l p = option_map (λ k. k.brief) (kept_at l p)

-- a failure was kept before, and nothing has changed
pub record Stopped {T B D : Type 0} (old new : Paged T B D) : Type 0 where
  pub kept : is_some old.core.failure ≡ true
  pub same : new ≡ old

-- the failure was told, and nothing else has changed; the first one is kept
pub record Fails {T B D : Type 0} (old : Paged T B D) (w : ℕ) (f : Failure) (new : Paged T B D) : Type 0 where
  pub same : new ≡ record old { core = failed old.core f; counters = counted (event.Fail w f) old.counters (failed old.core f) }

-- a new pool is in: it has the value and the brief, and the trail has its insertion
pub record Inserts {T B D : Type 0} (charge : T → ℕ) (spell : T → List ℕ) (old new : Paged T B D) (p : ℕ) (d : Draft T) (brief : B) : Type 0 where
  pub step : step_of old.core (event.Insert p (draft_form d) (charge (draft_value d)) (length (spell (draft_value d)))) ≡ Ok new.core
  pub same : new ≡ record old {
    core = new.core;
    counters = counted (event.Insert p (draft_form d) (charge (draft_value d)) (length (spell (draft_value d)))) old.counters new.core;
    home = is_none new.core.disk;
    kept = new.kept;
    trail = record old.trail { insertions = old.trail.insertions ++ p ∷ [] };
  }
  pub kept : KeepsAt old new p (Some (record { value = draft_value d; brief = brief }))

-- the answer to an insertion
abbrev pub AnswersInsert : {T B D : Type 0} (charge : T → ℕ) (spell : T → List ℕ) → Paged T B D → Paged T B D → ℕ → Draft T → B → Put T B → Type 0
AnswersInsert charge spell old new p d brief put.Done = Inserts charge spell old new p d brief
AnswersInsert charge spell old new p d brief (put.NeedsRoom bytes back brief_back) =
    (new ≡ old) × (step_of old.core (event.Insert p (draft_form d) (charge (draft_value d)) (length (spell (draft_value d)))) ≡ Err (refusal.NeedsRoom bytes)) ×
    (back ≡ d) × (brief_back ≡ brief)
AnswersInsert charge spell old new p d brief (put.TooSmall pid need limit) =
    (step_of old.core (event.Insert p (draft_form d) (charge (draft_value d)) (length (spell (draft_value d)))) ≡ Err (refusal.TooSmall need)) × (pid ≡ p) ×
    (limit ≡ old.core.limit)
    × Fails old 0 (failure.TooSmall p need limit) new
AnswersInsert charge spell old new p d brief put.Stopped = Stopped old new

-- the hand has a free place for the pin and for a move; in a wave a pool is written by its task's worker; the room is at most 2^41
pub record Allows (s : Core) (w p : ℕ) (m : Mode) : Type 0 where
  pub moved : (hand_at s.hands w).moved ≡ None
  pub pin : Rows.pin_place m (hand_at s.hands w) ≡ None
  pub task : Rows.is_write m ≡ true → s.in_wave ≡ true → (hand_at s.hands w).task ≡ Some p
  pub room : room_of m ≤ 2 ^ 41

-- the event that pins for reading or for writing
abbrev pub pin_event : ℕ → ℕ → Mode → Event
pin_event w p mode.Read = event.PinRead w p
pin_event w p (mode.Write room) = event.PinWrite w p room

module _ {T B D : Type 0} (charge : T → ℕ) (spell : T → List ℕ) (bytes : D → Option (List ℕ)) (reach : D → ℕ) (honest : D → Bool) where
  -- a pin of the mode, of p, with the body that the contents have
  abbrev pub IsPin : Paged T B D → ℕ → Mode → Pin T → Type 0
  IsPin old p mode.Read (pin.Read x) = (x.pid ≡ p) × (content_at old p ≡ Some (arc_value x.body))
  IsPin old p (mode.Write room) (pin.Write x) = (x.pid ≡ p) × (content_at old p ≡ Some (arc_value x.body))
  IsPin old p mode.Read (pin.Write x) = ⊥
  IsPin old p (mode.Write room) (pin.Read x) = ⊥

  -- the record of the value r of p, below the places that a disk has to reach, handed out with the disk, which has its bytes
  -- if it is trusted
  pub record HandsRecord (old : Paged T B D) (p : ℕ) (number : ℕ) (d : D) (r : T) : Type 0 where
    pub content : content_at old p ≡ Some r
    pub charge_is : number ≡ charge r
    pub disk_is : d ≡ old.disk
    pub within : p * old.core.limit + length (spell r) ≤ 131072 * old.core.limit
    pub there : IsTrusted reach honest old → HasBytes (bytes d) (p * old.core.limit) (spell r)

  -- What is handed out to be made the body of p: the bytes of the value that the contents have, where the pool was
  -- compacted, or its record, where the pool was offloaded.
  abbrev pub IsReload : Paged T B D → ℕ → Move T D → Type 0
  IsReload old p (move.FromBytes q b) = (q ≡ p) × (stage_at old p ≡ Some stage.Compacted) × ((r : T) × (content_at old p ≡ Some r) × (b.items ≡ spell r))
  IsReload old p (move.FromDisk q filed number d) = (q ≡ p) × (stage_at old p ≡ Some stage.Offloaded) ×
      ((r : T) × (filed ≡ record_of (p * old.core.limit) (spell r)) × HandsRecord old p number d r)
  IsReload old p (move.Compacting q a) = ⊥
  IsReload old p (move.Offloading q place b d) = ⊥

  -- the answer to a wish for a pin
  abbrev pub AnswersPin : Paged T B D → Paged T B D → ℕ → ℕ → Mode → PinAnswer T D → Type 0
  AnswersPin old new w p m (answer.Ready x) = Steps old (pin_event w p m) new × IsPin old p m x
  AnswersPin old new w p m (answer.Reload mv) = Steps old (event.ReloadBegin w p m) new × IsReload old p mv
  AnswersPin old new w p m answer.Moving = (new ≡ old) × (step_of old.core (pin_event w p m) ≡ Err refusal.Moving)
  AnswersPin old new w p m answer.InUse = (new ≡ old) × (step_of old.core (pin_event w p m) ≡ Err refusal.InUse)
  AnswersPin old new w p m answer.DiskOut = (new ≡ old) × (step_of old.core (event.ReloadBegin w p m) ≡ Err refusal.DiskOut)
  AnswersPin old new w p m answer.Stopped = Stopped old new
  AnswersPin old new w p m answer.Memory = (m ≡ mode.Read) × (new ≡ old) × IsOk (step_of old.core (pin_event w p m))

-- packed bytes are the spelling of the body
abbrev pub IsPacked : {T : Type 0} (spell : T → List ℕ) → Option (Vec ℕ Global) → T → Type 0
IsPacked spell None r = ⊤
IsPacked spell (Some v) r = v.items ≡ spell r

-- the form in which the last reader leaves a pool
abbrev pub unpin_form : Option (Vec ℕ Global) → Form
unpin_form None = form.Expanded
unpin_form (Some v) = form.Compacted

-- the answer to the end of a pin for reading, while no failure is kept: it is the event, or the form doesn't fit and all is as it was
abbrev pub AnswersUnpin : {T B D : Type 0} → Paged T B D → Paged T B D → ℕ → ReadPin T → Form → Result (Unit {0}) (ReadPin T × ℕ) → Type 0
AnswersUnpin old new w x f (Ok u) = Steps old (event.UnpinRead w x.pid f) new
AnswersUnpin old new w x f (Err e) = (new ≡ old) × (step_of old.core (event.UnpinRead w x.pid f) ≡ Err (refusal.NeedsRoom e.1)) × (e.0 ≡ x)

-- a pool has a new value and a new brief
pub record Writes {T B D : Type 0} (charge : T → ℕ) (spell : T → List ℕ) (old new : Paged T B D) (w p : ℕ) (d : Draft T) (brief : B) : Type 0 where
  pub there : IsSome (kept_at old p)
  pub event : Changes old (event.UnpinWrite w p (draft_form d) (charge (draft_value d)) (length (spell (draft_value d)))) new
  pub disk_same : new.disk ≡ old.disk
  pub kept : KeepsAt old new p (Some (record { value = draft_value d; brief = brief }))

-- the new value's form, of those bytes, doesn't fit now; what was handed in comes back, and all is as it was
abbrev pub WantsRoom : {T B D : Type 0} (charge : T → ℕ) (spell : T → List ℕ) → Paged T B D → Paged T B D → ℕ → ℕ → Draft T → B → Put T B → Type 0
WantsRoom charge spell old new w p d brief (put.NeedsRoom bytes back brief_back) =
    (new ≡ old) × (step_of old.core (event.UnpinWrite w p (draft_form d) (charge (draft_value d)) (length (spell (draft_value d)))) ≡ Err
    (refusal.NeedsRoom bytes)) × (back ≡ d) × (brief_back ≡ brief)
WantsRoom charge spell old new w p d brief _ = ⊥

-- the answer to the end of a pin for writing
abbrev pub AnswersWrite : {T B D : Type 0} (charge : T → ℕ) (spell : T → List ℕ) → Paged T B D → Paged T B D → ℕ → WritePin T → Draft T → B
    → Result (Put T B) (WritePin T × Put T B) → Type 0
AnswersWrite charge spell old new w x d brief (Ok put.Done) = Writes charge spell old new w x.pid d brief
AnswersWrite charge spell old new w x d brief (Ok (put.NeedsRoom bytes back brief_back)) = ⊥
AnswersWrite charge spell old new w x d brief (Ok (put.TooSmall pid need limit)) =
    (step_of old.core (event.UnpinWrite w x.pid (draft_form d) (charge (draft_value d)) (length (spell (draft_value d)))) ≡ Err (refusal.TooSmall need)) ×
    (pid ≡ x.pid) × (limit ≡ old.core.limit)
    × Fails old w (failure.TooSmall x.pid need limit) new
AnswersWrite charge spell old new w x d brief (Ok put.Stopped) = Stopped old new
AnswersWrite charge spell old new w x d brief (Err e) = (e.0 ≡ x) × WantsRoom charge spell old new w x.pid d brief e.1

-- a pool is gone, with its value and its brief
pub record Removes {T B D : Type 0} (old new : Paged T B D) (p : ℕ) : Type 0 where
  pub there : IsSome (kept_at old p)
  pub event : Changes old (event.Remove p) new
  pub disk_same : new.disk ≡ old.disk
  pub kept : KeepsAt old new p None

-- the answer to a claim: the first task that nobody claimed, or none is left, or a failure is kept
abbrev pub AnswersClaim : {T B D : Type 0} → Paged T B D → Paged T B D → ℕ → Option ℕ → Type 0
AnswersClaim old new w (Some t) = Steps old (event.Claim w) new × (slice_get old.core.unclaimed 0 ≡ Some t)
AnswersClaim old new w None = (new ≡ old) × ((is_some old.core.failure ≡ true) ⊎ (slice_get old.core.unclaimed 0 ≡ None))

-- the disk that a move carries
abbrev pub disk_of : {T D : Type 0} → Move T D → Option D
disk_of (move.Compacting p a) = None
disk_of (move.Offloading p place b d) = Some d
disk_of (move.FromBytes p b) = None
disk_of (move.FromDisk p filed number d) = Some d

-- the disk that a move carries, if there is a move
abbrev pub disk_with : {T D : Type 0} → Option (Move T D) → Option D
disk_with None = None
disk_with (Some m) = disk_of m

-- the disk comes home, if one does
abbrev pub brought : {T B D : Type 0} → Paged T B D → Option D → Paged T B D
brought l None = l
brought l (Some d) = record l { disk = d; home = true }

-- A disk that comes back was out; if it is trusted, it is honest still and reaches as far.
abbrev pub ComesBack : {T B D : Type 0} → (D → ℕ) → (D → Bool) → Paged T B D → Option D → Type 0
ComesBack reach honest l None = ⊤
ComesBack reach honest l (Some d) = (l.home ≡ false) × (IsTrusted reach honest l → IsGood reach honest l.core.limit d)

-- a failure was kept before; a disk came home, and nothing else has changed
pub record Back {T B D : Type 0} (old : Paged T B D) (d : Option D) (new : Paged T B D) : Type 0 where
  pub kept : is_some old.core.failure ≡ true
  pub same : new ≡ brought old d
