-- A body that is written.
use Rattle.std.proofs.Common.{◌≡◌, ◌≤◌, ◌+◌, ◌^◌, inl, inr, ℕ, Bool, true, false, List, length, Option, Some, None, IsSome, Ok, Err, refl, sym, ap, subst, ◌∙◌}
use Rattle.std.proofs.Math.Nat.{le_refl}
use Rattle.std.specs.Prelude.{is_none, is_some, option_map}
use Rattle.std.specs.Arc.{arc_value}
use Rattle.std.proofs.lemmas.Option.{same_Some}
use Rattle.naim_core.specs.Rows
use Rattle.naim_core.specs.State.{empty_hand, is_moving, is_pinned, is_written, pool_at}
use Rattle.naim_core.specs.Steps.{step_of}
use Rattle.naim_core.specs.declared.event.Event.TheVariants as event
use Rattle.naim_core.specs.declared.event.Mode.TheVariants as mode
use Rattle.naim_core.specs.declared.event.Refusal.{Refusal}
use Rattle.naim_core.specs.declared.event.Refusal.TheVariants as refusal
use Rattle.naim_core.specs.declared.pool.Pool.{Pool}
use Rattle.naim_core.specs.declared.pool.Stage.TheVariants as stage
use Rattle.naim_core.specs.declared.state.Hand.{Hand}
use Rattle.naim_loader.specs.declared.forms.Draft.{Draft}
use Rattle.naim_loader.specs.declared.forms.Move.{Move}
use Rattle.naim_loader.specs.declared.forms.Pin.{Pin}
use Rattle.naim_loader.specs.declared.forms.Pin.TheVariants as pin
use Rattle.naim_loader.specs.declared.forms.PinAnswer.{PinAnswer}
use Rattle.naim_loader.specs.declared.forms.PinAnswer.TheVariants as answer
use Rattle.naim_loader.specs.declared.forms.Put.{Put}
use Rattle.naim_loader.specs.declared.forms.Put.TheVariants as put
use Rattle.naim_loader.specs.declared.forms.WritePin.{WritePin}
use Rattle.naim_loader.specs.Calls.{AnswersPin, AnswersWrite, KeepsAt, Writes, disk_of, stage_at}
use Rattle.naim_loader.specs.Contents.{StandsFor}
use Rattle.naim_loader.specs.Drafts.{draft_form, draft_value}
use Rattle.naim_loader.specs.Moves.{pid_of}
use Rattle.naim_loader.specs.Paged.{Paged, content_at, kept_at}
use Rattle.one_owner.specs.Alone.{IsResting, IsWriting, Works, charge_at, idle, writing}
use Rattle.one_owner.specs.Answers.{HasStated, Rewrites, TakesToWrite}
use Rattle.one_owner.specs.Going.{MakesRoom}
use Rattle.one_owner.specs.Reloading.{IsWritePin, Reloaded}
use Rattle.one_owner.specs.Rounds.{HasRoom}
use Rattle.one_owner.proofs.Events.{alone_acts, pool_acts, write_pins, write_unpins, wrote}
use Rattle.one_owner.proofs.Frames.{insertions_change, keeps_step, stays_change, stays_on}
use Rattle.one_owner.proofs.Hands.{hand_is, idle_is, rest_stage}
use Rattle.one_owner.proofs.Pools.{content_same, keeps_from, keeps_value, kept_there, pool_there}
use Rattle.one_owner.proofs.Refusals.{reload_home, write_pin_taken, write_taken}
use Rattle.one_owner.proofs.Restoring.{Began}
use Rattle.one_owner.proofs.Rounds.{home_is}
use Rattle.one_owner.proofs.Taking.{present, still_stage}

-- the pool of a stage that is told
staged : {T B D : Type 0} (l : Paged T B D) (p room : ℕ) → stage_at l p ≡ Some (stage.Written room) → (x : Pool) × (pool_at l.core.pools p ≡ Some x)
    × (x.stage ≡ stage.Written room)
staged l p room e = by (pool_at l.core.pools p) refl e
  where
    by : (o : Option Pool) → pool_at l.core.pools p ≡ o → option_map (λ x. x.stage) o ≡ Some (stage.Written room)
        → (x : Pool) × (pool_at l.core.pools p ≡ Some x) × (x.stage ≡ stage.Written room)
    by None at h = cc
    by (Some x) at h = (x, at, same_Some x.stage (stage.Written room) h)

-- the pool that worker 0 writes, whose room holds what is to come
pub written_pool : {T B D : Type 0} (l : Paged T B D) (p n : ℕ) → HasStated l p n
    → (x : Pool) × (pool_at l.core.pools p ≡ Some x) × (is_written x.stage ≡ true) × (n ≤ Rows.stated_room x.stage)
written_pool l p n s =
    let t = staged l p s.room s.stage_is in
    (t.0, t.1, ap is_written t.2, subst (λ st. n ≤ Rows.stated_room st) (sym t.2) s.within)

module _ {T B D : Type 0} (charge : T → ℕ) (spell : T → List ℕ) (is_value : T → Type 0) (bytes : D → Option (List ℕ)) (reach : D → ℕ) (honest : D → Bool)
    (faults : D → ℕ) where
  -- a pin that is had at once
  written : (old new : Paged T B D) (p room : ℕ) (x : WritePin T) → IsResting old → StandsFor charge spell is_value bytes reach honest old
      → AnswersPin charge spell bytes reach honest old new 0 p (mode.Write room) (answer.Ready (pin.Write x))
      → TakesToWrite reach honest faults old new p room x
  written old new p room x w s a =
      let t = a.0 in let pid = a.1.0 in let content = a.1.1 in let h : Hand → Hand = λ g. record g { written = Some p } in
      let th = pool_there charge spell is_value bytes reach honest old p (arc_value x.body) s content in let z = th.0 in
      let y : Pool = record z { stage = stage.Written room } in
      let act = write_pins old.core new.core p room z s.sound w.running th.1 t.step in
      let alone = alone_acts old.core new.core p z y h old.core.disk empty_hand act w.alone in
      let at = pool_acts old.core new.core p z y h old.core.disk act in
      let home = home_is old.core.disk (sym (s.home w.running) ∙ w.home) in
      let k = keeps_step faults old new (event.PinWrite 0 p room) p z y h old.core.disk empty_hand t act w.alone in
      let was = kept_there old p (arc_value x.body) content in
      record {
        pid = pid;
        writes = record { alone = alone; running = act.failure ∙ w.running; home = ap (λ v. v.home) t.same ∙ ap is_none (act.disk_is ∙ home) };
        room_is = ap (option_map (λ v. v.stage)) at;
        charge_same = ap (option_map (λ v. v.e)) at ∙ sym (ap (option_map (λ v. v.e)) th.1);
        pin = record {
          hand = ap (λ h. h.written) (hand_is new.core (writing p) alone) ∙ ap (λ q. Some q) (sym pid);
          pool = (y, ap (pool_at new.core.pools) pid ∙ at, refl);
          content = ap (content_at new) pid ∙ content_same old new p (arc_value x.body) k.kept content;
        };
        stays = k.stays;
        was = was.0;
        there = was.1;
        kept = keeps_value old new p was.0 (arc_value x.body) k.kept was.1 was.2;
        same = λ u. sym was.2;
        used = k.used;
        insertions = k.insertions;
      }

  pub written_pin : (old new : Paged T B D) (p room : ℕ) (x : Pin T) (y : WritePin T) → x ≡ pin.Write y → IsResting old
      → StandsFor charge spell is_value bytes reach honest old → AnswersPin charge spell bytes reach honest old new 0 p (mode.Write room) (answer.Ready x)
      → TakesToWrite reach honest faults old new p room y
  written_pin old new p room x y same w s a =
      written old new p room y w s (subst (λ z. AnswersPin charge spell bytes reach honest old new 0 p (mode.Write room) (answer.Ready z)) same a)

  answers_so : (old new : Paged T B D) (p room : ℕ) (z : Pool) (a : PinAnswer T D) → IsResting old → StandsFor charge spell is_value bytes reach honest old
      → pool_at old.core.pools p ≡ Some z → (is_moving z.stage ≡ false) × (is_pinned z.stage ≡ false)
      → AnswersPin charge spell bytes reach honest old new 0 p (mode.Write room) a → ((x : Pin T) → a ≡ answer.Ready x → ⊥)
      → ((m : Move T D) → a ≡ answer.Reload m → ⊥) → ⊥
  answers_so old new p room z (answer.Ready x) w s at lies b nr nm = nr x refl
  answers_so old new p room z (answer.Reload m) w s at lies b nr nm = nm m refl
  answers_so old new p room z answer.Moving w s at lies b nr nm =
      write_pin_taken old.core p room z refusal.Moving w.running at lies.0 lies.1 (inl refl) b.1
  answers_so old new p room z answer.InUse w s at lies b nr nm =
      write_pin_taken old.core p room z refusal.InUse w.running at lies.0 lies.1 (inr refl) b.1
  answers_so old new p room z answer.DiskOut w s at lies b nr nm =
      reload_home old.core p (mode.Write room) z w.running at (home_is old.core.disk (sym (s.home w.running) ∙ w.home)) b.1
  answers_so old new p room z answer.Stopped w s at lies b nr nm =
      (let e : is_some old.core.failure ≡ false = ap is_some w.running in let q : true ≡ false = sym b.kept ∙ e in absurd cc)
  answers_so old new p room z answer.Memory w s at lies b nr nm = (let e = b.0 in absurd cc)

  -- with nobody at work a pin or a reload is the answer
  pub write_answered : (old new : Paged T B D) (p room : ℕ) (a : PinAnswer T D) → IsResting old → StandsFor charge spell is_value bytes reach honest old
      → IsSome (kept_at old p) → AnswersPin charge spell bytes reach honest old new 0 p (mode.Write room) a → ((x : Pin T) → a ≡ answer.Ready x → ⊥)
      → ((m : Move T D) → a ≡ answer.Reload m → ⊥) → ⊥
  write_answered old new p room a w s some b nr nm =
      let t = present charge spell is_value bytes reach honest faults old p (kept_at old p) s refl some in
      answers_so old new p room t.0 a w s t.1 (still_stage t.0.stage (rest_stage old.core p t.0 s.sound w.alone t.1)) b nr nm

  pub is_write_pin : (old new : Paged T B D) (p room : ℕ) (x : Pin T)
      → AnswersPin charge spell bytes reach honest old new 0 p (mode.Write room) (answer.Ready x)
      → IsWritePin x
  is_write_pin old new p room (pin.Read x) a = absurd a.1
  is_write_pin old new p room (pin.Write x) a = tt

  -- a pin that a reload gave
  written_back : (old mid new : Paged T B D) (p room : ℕ) (m : Move T D) (x : WritePin T)
      → Began charge spell is_value bytes reach honest faults (mode.Write room) old mid p m
      → Reloaded reach honest faults mid new (mode.Write room) (pid_of m) (is_some (disk_of m)) (pin.Write x)
      → TakesToWrite reach honest faults old new p room x
  written_back old mid new p room m x b r = record {
    pid = r.is ∙ b.pid;
    writes = subst (IsWriting new) b.pid r.works;
    room_is = subst (λ q. stage_at new q ≡ Some (stage.Written room)) b.pid r.stage_is;
    charge_same = subst (λ q. charge_at new q ≡ charge_at mid q) b.pid r.charge_same ∙ b.charge_same;
    pin = r.pin;
    stays = stays_on faults old mid new b.keeps.stays r.stays;
    was = r.was;
    there = sym (b.keeps.kept p) ∙ ap (kept_at mid) (sym b.pid) ∙ r.there;
    kept = keeps_from old mid new p (Some (record r.was { value = arc_value x.body })) b.keeps.kept
        (subst (λ q. KeepsAt mid new q (Some (record r.was { value = arc_value x.body }))) b.pid r.kept);
    same = λ u. r.same (b.trusted u);
    used = r.used ∙ b.keeps.used;
    insertions = r.insertions ∙ b.keeps.insertions;
  }

  pub written_back_pin : (old mid new : Paged T B D) (p room : ℕ) (m : Move T D) (x : Pin T) (y : WritePin T) → x ≡ pin.Write y
      → Began charge spell is_value bytes reach honest faults (mode.Write room) old mid p m
      → Reloaded reach honest faults mid new (mode.Write room) (pid_of m) (is_some (disk_of m)) x → TakesToWrite reach honest faults old new p room y
  written_back_pin old mid new p room m x y same b r =
      written_back old mid new p room m y b (subst (Reloaded reach honest faults mid new (mode.Write room) (pid_of m) (is_some (disk_of m))) same r)

  -- a pin that a reload for writing gives is for writing
  pub reload_writes : (l new : Paged T B D) (p room : ℕ) (from_disk : Bool) (x : Pin T) → Reloaded reach honest faults l new (mode.Write room) p from_disk x
      → IsWritePin x
  reload_writes l new p room from_disk (pin.Read x) r = absurd r.is
  reload_writes l new p room from_disk (pin.Write x) r = tt

  -- the end of a pin for writing
  pub rewritten : (old new : Paged T B D) (p : ℕ) (d : Draft T) (brief : B) → IsWriting old p → StandsFor charge spell is_value bytes reach honest old
      → HasStated old p (charge (draft_value d) + length (spell (draft_value d))) → Writes charge spell old new 0 p d brief
      → Rewrites faults old new p (draft_value d) brief
  rewritten old new p d brief w s stated t =
      let e = charge (draft_value d) in let c = length (spell (draft_value d)) in
      let v = written_pool old p (e + c) stated in let x = v.0 in let y : Pool = Rows.inserted (draft_form d) e c in
      let act = write_unpins old.core new.core p (draft_form d) e c x s.sound w.running v.1 t.event.step in
      let home = home_is old.core.disk (sym (s.home w.running) ∙ w.home) in
      let later : faults old.disk ≤ faults new.disk = subst (λ z. faults old.disk ≤ faults z) (sym t.disk_same) (le_refl _) in
      record {
        rests = record {
          alone = alone_acts old.core new.core p x y (wrote p) old.core.disk (writing p) act w.alone;
          running = act.failure ∙ w.running;
          home = ap (λ z. z.home) t.event.same ∙ ap is_none (act.disk_is ∙ home);
        };
        stays = stays_change faults old new (event.UnpinWrite 0 p (draft_form d) e c) p x y (wrote p) old.core.disk (writing p) t.event act w.alone later;
        kept = t.kept;
        used = act.swap.count;
        insertions = insertions_change faults old new (event.UnpinWrite 0 p (draft_form d) e c) t.event;
      }

  -- where its form fits, it isn't refused
  let_write : (old : Paged T B D) (p : ℕ) (d : Draft T) (r : Refusal) → IsWriting old p
      → HasStated old p (charge (draft_value d) + length (spell (draft_value d))) → length (spell (draft_value d)) ≤ charge (draft_value d)
      → charge (draft_value d) ≤ 2 ^ 40 → HasRoom old (draft_form d) (charge (draft_value d)) (length (spell (draft_value d)))
      → step_of old.core (event.UnpinWrite 0 p (draft_form d) (charge (draft_value d)) (length (spell (draft_value d)))) ≡ Err r → ⊥
  let_write old p d r w stated short small room h =
      let t = staged old p stated.room stated.stage_is in
      write_taken old.core p (draft_form d) (charge (draft_value d)) (length (spell (draft_value d))) stated.room t.0 r w.running
      (ap (λ h. h.written) (hand_is old.core (writing p) w.alone)) t.1 t.2 stated.within short small room.short room.fits h

  -- so the answer is that it is done
  pub write_done : (old new : Paged T B D) (x : WritePin T) (d : Draft T) (brief : B) (a : Put T B) → IsWriting old x.pid
      → HasStated old x.pid (charge (draft_value d) + length (spell (draft_value d))) → length (spell (draft_value d)) ≤ charge (draft_value d)
      → charge (draft_value d) ≤ 2 ^ 40 → HasRoom old (draft_form d) (charge (draft_value d)) (length (spell (draft_value d)))
      → AnswersWrite charge spell old new 0 x d brief (Ok a) → (a ≡ put.Done → ⊥) → ⊥
  write_done old new x d brief put.Done w stated short small room b n = n refl
  write_done old new x d brief (put.NeedsRoom k back brief_back) w stated short small room b n = b
  write_done old new x d brief (put.TooSmall q need limit) w stated short small room b n = let_write old x.pid d
      (refusal.TooSmall need) w stated short small room b.0
  write_done old new x d brief put.Stopped w stated short small room b n =
      (let e : is_some old.core.failure ≡ false = ap is_some w.running in let q : true ≡ false = sym b.kept ∙ e in absurd cc)

  pub write_kept : (old new : Paged T B D) (x : WritePin T) (d : Draft T) (brief : B) (e : WritePin T × Put T B) → IsWriting old x.pid
      → HasStated old x.pid (charge (draft_value d) + length (spell (draft_value d))) → length (spell (draft_value d)) ≤ charge (draft_value d)
      → charge (draft_value d) ≤ 2 ^ 40 → HasRoom old (draft_form d) (charge (draft_value d)) (length (spell (draft_value d)))
      → AnswersWrite charge spell old new 0 x d brief (Err e) → ⊥
  write_kept old new x d brief (back, put.Done) w stated short small room b = b.1
  write_kept old new x d brief (back, put.NeedsRoom k draft brief_back) w stated short small room b =
      let_write old x.pid d (refusal.NeedsRoom k) w stated short small room b.1.1
  write_kept old new x d brief (back, put.TooSmall q need limit) w stated short small room b = b.1
  write_kept old new x d brief (back, put.Stopped) w stated short small room b = b.1

-- room that was made for a new value
module _ {T B D : Type 0} (faults : D → ℕ) where
  pub writes_still : (old mid : Paged T B D) (p wanted : ℕ) → IsWriting old p → MakesRoom faults old mid (idle old.core) wanted → IsWriting mid p
  writes_still old mid p wanted w m = subst (Works mid) (idle_is old.core (writing p) w.alone) m.works

  pub stated_still : (old mid : Paged T B D) (p n wanted : ℕ) (h : Hand) → MakesRoom faults old mid h wanted → HasStated old p n → HasStated mid p n
  stated_still old mid p n wanted h m s =
      let t = staged old p s.room s.stage_is in
      record {
        room = s.room;
        stage_is = ap (option_map (λ x. x.stage)) (m.written p t.0 t.1 (ap is_written t.2)) ∙ ap (λ st. Some st) t.2;
        within = s.within;
      }

  pub stated_as : (l : Paged T B D) (p n n' : ℕ) → n ≡ n' → HasStated l p n → HasStated l p n'
  stated_as l p n n' e = subst (HasStated l p) e

  pub rewrites_on : (old mid new : Paged T B D) (p : ℕ) (r r' : T) (brief : B) (wanted : ℕ) (h : Hand) → MakesRoom faults old mid h wanted → r ≡ r'
      → Rewrites faults mid new p r brief → Rewrites faults old new p r' brief
  rewrites_on old mid new p r r' brief wanted h m same x = subst (λ z. Rewrites faults old new p z brief) same (record {
    rests = x.rests;
    stays = stays_on faults old mid new m.keeps.stays x.stays;
    kept = keeps_from old mid new p (Some (record { value = r; brief = brief })) m.keeps.kept x.kept;
    used = x.used ∙ m.keeps.used;
    insertions = x.insertions ∙ m.keeps.insertions;
  })
