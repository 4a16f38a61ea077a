-- A body that is read.
use Rattle.std.proofs.Common.{◌≡◌, ◌≤◌, ◌^◌, ◌⊎◌, inl, inr, ℕ, Bool, true, false, List, Option, Some, None, IsSome, refl, sym, ap, subst, ◌∙◌}
use Rattle.std.specs.Prelude.{is_none, is_some, option_map}
use Rattle.std.specs.Arc.{arc_value}
use Rattle.naim_core.specs.Rows
use Rattle.naim_core.specs.State.{Core, empty_hand, is_moving, is_pinned, is_read, is_written, pool_at}
use Rattle.naim_core.specs.declared.event.Event.TheVariants as event
use Rattle.naim_core.specs.declared.event.Failure.TheVariants as failure
use Rattle.naim_core.specs.Charges.{room_of}
use Rattle.naim_core.specs.declared.event.Mode.{Mode}
use Rattle.naim_core.specs.declared.event.Mode.TheVariants as mode
use Rattle.naim_core.specs.declared.event.Refusal.TheVariants as refusal
use Rattle.naim_core.specs.declared.pool.Pool.{Pool}
use Rattle.naim_core.specs.declared.pool.Stage.{Stage}
use Rattle.naim_core.specs.declared.pool.Stage.TheVariants as stage
use Rattle.naim_loader.specs.declared.forms.Move.{Move}
use Rattle.naim_loader.specs.declared.forms.Pin.{Pin}
use Rattle.naim_loader.specs.declared.forms.Pin.TheVariants as pin
use Rattle.naim_loader.specs.declared.forms.PinAnswer.{PinAnswer}
use Rattle.naim_loader.specs.declared.forms.PinAnswer.TheVariants as answer
use Rattle.naim_loader.specs.declared.forms.ReadPin.{ReadPin}
use Rattle.naim_loader.specs.Calls.{Allows, AnswersPin, Fails, KeepsAt, disk_of}
use Rattle.naim_loader.specs.Contents.{StandsFor}
use Rattle.naim_loader.specs.Moves.{pid_of}
use Rattle.naim_loader.specs.Paged.{Paged, content_at, kept_at}
use Rattle.naim_loader.specs.Rows.{Kept}
use Rattle.one_owner.specs.Alone.{IsAlone, IsReading, IsResting, reading}
use Rattle.one_owner.specs.Answers.{Takes}
use Rattle.one_owner.specs.Causes.{TakeCause}
use Rattle.one_owner.specs.Going.{Stops}
use Rattle.one_owner.specs.Reloading.{IsReadPin, Reloaded}
use Rattle.one_owner.proofs.Events.{alone_acts, pool_acts, read_pins}
use Rattle.one_owner.proofs.Frames.{keeps_step, stays_on, rest_stops}
use Rattle.one_owner.proofs.Hands.{hand_is, rest_stage}
use Rattle.one_owner.proofs.Pools.{content_same, keeps_from, keeps_value, kept_there, pool_there}
use Rattle.one_owner.proofs.Refusals.{pin_taken, reload_home}
use Rattle.one_owner.proofs.Rounds.{home_is}
use Rattle.one_owner.proofs.Restoring.{Began}

-- a hand that holds nothing may take a pin
no_pin : (kind : Mode) → Rows.pin_place kind empty_hand ≡ None
no_pin mode.Read = refl
no_pin (mode.Write room) = refl

pub may_pin : (s : Core) (p : ℕ) (kind : Mode) → room_of kind ≤ 2 ^ 41 → IsAlone s empty_hand → Allows s 0 p kind
may_pin s p kind room o = let e = hand_is s empty_hand o in record {
  moved = ap (λ h. h.moved) e;
  pin = ap (Rows.pin_place kind) e ∙ no_pin kind;
  task = λ k in_wave. (let q : true ≡ false = sym in_wave ∙ o.closed in absurd cc);
  room = room;
}

read_now : (st : Stage) → is_read (Rows.with_reader st) ≡ true
read_now stage.Free = refl
read_now (stage.Read readers) = refl
read_now (stage.Written room) = refl
read_now stage.Compacted = refl
read_now stage.Offloaded = refl
read_now stage.Compacting = refl
read_now stage.Offloading = refl
read_now (stage.Reloading m from_disk) = refl

pub still_stage : (st : Stage) → (st ≡ stage.Free) ⊎ ((st ≡ stage.Compacted) ⊎ (st ≡ stage.Offloaded)) → (is_moving st ≡ false) × (is_pinned st ≡ false)
still_stage st (inl e) = (ap is_moving e, ap is_pinned e)
still_stage st (inr (inl e)) = (ap is_moving e, ap is_pinned e)
still_stage st (inr (inr e)) = (ap is_moving e, ap is_pinned e)

not_written : (st : Stage) → is_pinned st ≡ false → is_written st ≡ false
not_written stage.Free e = refl
not_written (stage.Read readers) e = refl
not_written (stage.Written room) e = cc
not_written stage.Compacted e = refl
not_written stage.Offloaded e = refl
not_written stage.Compacting e = refl
not_written stage.Offloading e = refl
not_written (stage.Reloading m from_disk) e = refl

module _ {T B D : Type 0} (charge : T → ℕ) (spell : T → List ℕ) (is_value : T → Type 0) (bytes : D → Option (List ℕ)) (reach : D → ℕ) (honest : D → Bool)
    (faults : D → ℕ) where
  -- a pin that is had at once
  pub taken : (old new : Paged T B D) (p : ℕ) (x : ReadPin T) → IsResting old → StandsFor charge spell is_value bytes reach honest old
      → AnswersPin charge spell bytes reach honest old new 0 p mode.Read (answer.Ready (pin.Read x)) → Takes reach honest faults old new p x
  taken old new p x w s a =
      let t = a.0 in let pid = a.1.0 in let content = a.1.1 in
      let th = pool_there charge spell is_value bytes reach honest old p (arc_value x.body) s content in let z = th.0 in
      let y : Pool = record z { stage = Rows.with_reader z.stage } in
      let act = read_pins old.core new.core p z s.sound w.running th.1 t.step in
      let alone = alone_acts old.core new.core p z y (λ g. record g { read = Some p }) old.core.disk empty_hand act w.alone in
      let home = home_is old.core.disk (sym (s.home w.running) ∙ w.home) in
      let k = keeps_step faults old new (event.PinRead 0 p) p z y (λ g. record g { read = Some p }) old.core.disk empty_hand t act w.alone in
      let was = kept_there old p (arc_value x.body) content in
      record {
        pid = pid;
        reads = record { alone = alone; running = act.failure ∙ w.running; home = ap (λ v. v.home) t.same ∙ ap is_none (act.disk_is ∙ home) };
        pin = record {
          hand = ap (λ h. h.read) (hand_is new.core (reading p) alone) ∙ ap (λ q. Some q) (sym pid);
          pool = (y, ap (pool_at new.core.pools) pid ∙ pool_acts old.core new.core p z y (λ g. record g { read = Some p }) old.core.disk act, read_now z.stage);
          content = ap (content_at new) pid ∙ content_same old new p (arc_value x.body) k.kept content;
        };
        stays = k.stays;
        was = was.0;
        there = was.1;
        kept = keeps_value old new p was.0 (arc_value x.body) k.kept was.1 was.2;
        same = λ u. sym was.2;
        used = k.used;
        insertions = k.insertions;
      }

  pub taken_pin : (old new : Paged T B D) (p : ℕ) (x : Pin T) (y : ReadPin T) → x ≡ pin.Read y → IsResting old
      → StandsFor charge spell is_value bytes reach honest old → AnswersPin charge spell bytes reach honest old new 0 p mode.Read (answer.Ready x)
      → Takes reach honest faults old new p y
  taken_pin old new p x y same w s a = taken old new p y w s
      (subst (λ z. AnswersPin charge spell bytes reach honest old new 0 p mode.Read (answer.Ready z)) same a)

  -- want of memory, where nothing has changed
  pub memory_stops : (old mid new : Paged T B D) (p : ℕ) → IsResting old → mid ≡ old → Fails mid 0 failure.Memory new
      → Stops faults (TakeCause charge spell is_value reach honest old p (faults old.disk) (faults new.disk)) old new failure.Memory
  memory_stops old mid new p w same t = rest_stops faults
      (TakeCause charge spell is_value reach honest old p (faults old.disk) (faults new.disk)) old new empty_hand failure.Memory w tt
      (subst (λ z. Fails z 0 failure.Memory new) same t)

  pub present : (old : Paged T B D) (p : ℕ) (o : Option (Kept T B)) → StandsFor charge spell is_value bytes reach honest old → kept_at old p ≡ o → IsSome o
      → (x : Pool) × (pool_at old.core.pools p ≡ Some x)
  present old p None s e h = absurd cc
  present old p (Some k) s e h = let t = pool_there charge spell is_value bytes reach honest old p k.value s (ap (option_map (λ z. z.value)) e) in (t.0, t.1)

  answers_so : (old new : Paged T B D) (p : ℕ) (z : Pool) (a : PinAnswer T D) → IsResting old → StandsFor charge spell is_value bytes reach honest old
      → pool_at old.core.pools p ≡ Some z → (is_moving z.stage ≡ false) × (is_pinned z.stage ≡ false)
      → AnswersPin charge spell bytes reach honest old new 0 p mode.Read a → ((x : Pin T) → a ≡ answer.Ready x → ⊥)
      → ((m : Move T D) → a ≡ answer.Reload m → ⊥) → (a ≡ answer.Memory → ⊥) → ⊥
  answers_so old new p z (answer.Ready x) w s at lies b nr nm nn = nr x refl
  answers_so old new p z (answer.Reload m) w s at lies b nr nm nn = nm m refl
  answers_so old new p z answer.Moving w s at lies b nr nm nn = pin_taken old.core p z refusal.Moving w.running at lies.0 (not_written z.stage lies.1)
      (inl refl) b.1
  answers_so old new p z answer.InUse w s at lies b nr nm nn = pin_taken old.core p z refusal.InUse w.running at lies.0 (not_written z.stage lies.1)
      (inr refl) b.1
  answers_so old new p z answer.DiskOut w s at lies b nr nm nn = reload_home old.core p mode.Read z w.running at
      (home_is old.core.disk (sym (s.home w.running) ∙ w.home)) b.1
  answers_so old new p z answer.Stopped w s at lies b nr nm nn =
      (let e : is_some old.core.failure ≡ false = ap is_some w.running in let q : true ≡ false = sym b.kept ∙ e in absurd cc)
  answers_so old new p z answer.Memory w s at lies b nr nm nn = nn refl

  -- with nobody at work a pin, a reload or want of memory is the answer
  pub answered : (old new : Paged T B D) (p : ℕ) (a : PinAnswer T D) → IsResting old → StandsFor charge spell is_value bytes reach honest old
      → IsSome (kept_at old p) → AnswersPin charge spell bytes reach honest old new 0 p mode.Read a
      → ((x : Pin T) → a ≡ answer.Ready x → ⊥) → ((m : Move T D) → a ≡ answer.Reload m → ⊥) → (a ≡ answer.Memory → ⊥) → ⊥
  answered old new p a w s some b nr nm nn =
      let t = present old p (kept_at old p) s refl some in
      answers_so old new p t.0 a w s t.1 (still_stage t.0.stage (rest_stage old.core p t.0 s.sound w.alone t.1)) b nr nm nn

  pub present_pool : (old : Paged T B D) (p : ℕ) → StandsFor charge spell is_value bytes reach honest old → IsSome (kept_at old p)
      → IsSome (pool_at old.core.pools p)
  present_pool old p s some = let t = present old p (kept_at old p) s refl some in ap is_some t.1

  pub is_read_pin : (old new : Paged T B D) (p : ℕ) (x : Pin T) → AnswersPin charge spell bytes reach honest old new 0 p mode.Read (answer.Ready x)
      → IsReadPin x
  is_read_pin old new p (pin.Read x) a = tt
  is_read_pin old new p (pin.Write x) a = absurd a.1

  -- a pin that a reload gave
  pub taken_back : (old mid new : Paged T B D) (p : ℕ) (m : Move T D) (x : ReadPin T)
      → Began charge spell is_value bytes reach honest faults mode.Read old mid p m
      → Reloaded reach honest faults mid new mode.Read (pid_of m) (is_some (disk_of m)) (pin.Read x) → Takes reach honest faults old new p x
  taken_back old mid new p m x b r = record {
    pid = r.is ∙ b.pid;
    reads = subst (IsReading new) b.pid r.works;
    pin = r.pin;
    stays = stays_on faults old mid new b.keeps.stays r.stays;
    was = r.was;
    there = sym (b.keeps.kept p) ∙ ap (kept_at mid) (sym b.pid) ∙ r.there;
    kept = keeps_from old mid new p (Some (record r.was { value = arc_value x.body })) b.keeps.kept
        (subst (λ q. KeepsAt mid new q (Some (record r.was { value = arc_value x.body }))) b.pid r.kept);
    same = λ u. r.same (b.trusted u);
    used = r.used ∙ b.keeps.used;
    insertions = r.insertions ∙ b.keeps.insertions;
  }

  pub taken_back_pin : (old mid new : Paged T B D) (p : ℕ) (m : Move T D) (x : Pin T) (y : ReadPin T) → x ≡ pin.Read y
      → Began charge spell is_value bytes reach honest faults mode.Read old mid p m
      → Reloaded reach honest faults mid new mode.Read (pid_of m) (is_some (disk_of m)) x → Takes reach honest faults old new p y
  taken_back_pin old mid new p m x y same b r =
      taken_back old mid new p m y b (subst (Reloaded reach honest faults mid new mode.Read (pid_of m) (is_some (disk_of m))) same r)

  -- a pin that a reload for reading gives is for reading
  pub reload_reads : (l new : Paged T B D) (p : ℕ) (from_disk : Bool) (x : Pin T) → Reloaded reach honest faults l new mode.Read p from_disk x → IsReadPin x
  reload_reads l new p from_disk (pin.Read x) r = tt
  reload_reads l new p from_disk (pin.Write x) r = absurd r.is
