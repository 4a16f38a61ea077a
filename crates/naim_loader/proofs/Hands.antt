-- What is handed out stands for the contents.
use Rattle.std.proofs.Common.{◌≡◌, ℕ, ◌*◌, ◌<◌, Bool, true, false, cond, List, length, Option, Some, None, Result, Ok, Err, refl, sym, ap, subst, ◌∙◌}
use Rattle.std.specs.Prelude.{is_none, option_map, slice_set, unwrap_or, if◌then◌else◌}
use Rattle.std.specs.Arc.{arc_value}
use Rattle.std.specs.Option.{option_map_or}
use Rattle.std.proofs.lemmas.Option.{same_Some}
use Rattle.outside.specs.Places.{byte_at}
use Rattle.repository.specs.Record.{HasBytes}
use Rattle.repository.specs.Filing.{record_of}
use Rattle.naim_core.specs.Charges.{under_sum}
use Rattle.naim_core.specs.Rows
use Rattle.naim_core.specs.Sound.{IsSound}
use Rattle.naim_core.specs.State.{Core, empty_hand, pool_at, hand_at, is_offloaded, is_read, is_written, victim}
use Rattle.naim_core.specs.Steps.{front, in_place, on_pool, permit, step_of, take_pin, then_state}
use Rattle.naim_core.specs.declared.event.Event.{Event}
use Rattle.naim_core.specs.declared.event.Event.TheVariants as event
use Rattle.naim_core.specs.declared.event.Mode.{Mode}
use Rattle.naim_core.specs.declared.event.Mode.TheVariants as mode
use Rattle.naim_core.specs.declared.event.Refusal.{Refusal}
use Rattle.naim_core.specs.declared.event.Refusal.TheVariants.{Absent}
use Rattle.naim_core.specs.declared.pool.Pool.{Pool}
use Rattle.naim_core.specs.declared.pool.Stage.{Stage}
use Rattle.naim_core.specs.declared.pool.Stage.TheVariants as stage
use Rattle.naim_core.specs.declared.state.Hand.{Hand}
use Rattle.naim_core.proofs.Effects.{Did, compact_begin_did, offload_begin_did, pin_read_did, pin_write_did, reload_begin_did, running}
use Rattle.list_laws.proofs.Entries.{number_itself}
use Rattle.naim_loader.specs.declared.forms.Move.{Move}
use Rattle.naim_loader.specs.declared.forms.Move.TheVariants as move
use Rattle.naim_loader.specs.declared.forms.Pin.{Pin}
use Rattle.naim_loader.specs.declared.forms.Pin.TheVariants as pin
use Rattle.naim_loader.specs.declared.forms.PinAnswer.TheVariants as answer
use Rattle.naim_loader.specs.declared.forms.Evict.TheVariants as evict
use Rattle.naim_loader.specs.Calls.{AnswersPin, stage_at}
use Rattle.naim_loader.specs.Contents.{HasDisk, HasMoveOf, HasPin, HoldsAt}
use Rattle.naim_loader.specs.Moves.{AnswersEvict}
use Rattle.naim_loader.specs.Paged.{Paged, content_at, IsGood, IsTrusted, Steps}
use Rattle.naim_loader.proofs.Rows.{get_put}
use Rattle.naim_loader.proofs.Wholes.{ran}

-- an event on a pool, whatever it makes of the pool, leaves the hands that it names
on_hands : (s : Core) (p : ℕ) (row : Pool → Rows.Row) (f : Pool → Pool) (g : Pool → Pool → Core) (new : Core) (hands : List Hand)
    → ((x y : Pool) → (g x y).hands ≡ hands)
    → on_pool s p (λ x. then_state (permit (row x) (f x)) (λ y. g x y)) ≡ Ok new → new.hands ≡ hands
on_hands s p row f g new hands same h = found (pool_at s.pools p) h
  where
    made : (x : Pool) (r : Result Pool Refusal) → then_state r (λ y. g x y) ≡ Ok new → new.hands ≡ hands
    made x (Ok y) k = (let is : g x y ≡ new = cc in ap (λ z. z.hands) (sym is) ∙ same x y)
    made x (Err r) k = cc

    found : (o : Option Pool) → option_map_or (λ x. then_state (permit (row x) (f x)) (λ y. g x y)) o (Err Absent) ≡ Ok new → new.hands ≡ hands
    found None k = cc
    found (Some x) k = made x (permit (row x) (f x)) k

hand_now : (hands : List Hand) (w : ℕ) (h : Hand) → w < length hands → hand_at (slice_set hands w h) w ≡ h
hand_now hands w h below = ap (λ o. unwrap_or o empty_hand) (get_put hands w h below)

pin_read_hand : (s new : Core) (w p : ℕ) → s.failure ≡ None → w < length s.hands → step_of s (event.PinRead w p) ≡ Ok new → (hand_at new.hands w).read ≡ Some p
pin_read_hand s new w p none below h =
    let g = hand_at s.hands w in let after : Hand = record g { read = Some p } in
    let is = on_hands s p (λ x. Rows.pin_read_row x g) (λ x. record x { stage = Rows.with_reader x.stage })
    (λ x y. record s { pools = front p y s.pools; hands = slice_set s.hands w after }) new (slice_set s.hands w after) (λ x y. refl)
    (sym (running s (event.PinRead w p) none) ∙ h) in
    ap (λ z. (hand_at z w).read) is ∙ ap (λ z. z.read) (hand_now s.hands w after below)

pin_write_hand : (s new : Core) (w p room : ℕ) → s.failure ≡ None → w < length s.hands → step_of s (event.PinWrite w p room) ≡ Ok new
    → (hand_at new.hands w).written ≡ Some p
pin_write_hand s new w p room none below h =
    let g = hand_at s.hands w in let after : Hand = record g { written = Some p } in
    let is = on_hands s p (λ x. Rows.pin_write_row x g s.in_wave p room) (λ x. record x { stage = stage.Written room })
    (λ x y. record s { pools = front p y s.pools; hands = slice_set s.hands w after }) new (slice_set s.hands w after)
    (λ x y. refl) (sym (running s (event.PinWrite w p room) none) ∙ h) in
    ap (λ z. (hand_at z w).written) is ∙ ap (λ z. z.written) (hand_now s.hands w after below)

moved_now : (m : Mode) (p : ℕ) (g : Hand) → (take_pin m p g).moved ≡ Some p
moved_now mode.Read p g = refl
moved_now (mode.Write room) p g = refl

reload_hand : (s new : Core) (w p : ℕ) (m : Mode) → s.failure ≡ None → w < length s.hands → step_of s (event.ReloadBegin w p m) ≡ Ok new
    → (hand_at new.hands w).moved ≡ Some p
reload_hand s new w p m none below h =
    let g = hand_at s.hands w in
    let is = on_hands s p (λ x. Rows.reload_begin_row x g s.in_wave p m s.disk) (λ x. record x { stage = stage.Reloading m (is_offloaded x.stage) })
    (λ x y. record s { pools = in_place p y s.pools; hands = slice_set s.hands w (take_pin m p g); disk = if is_offloaded x.stage then Some w else s.disk }) new
    (slice_set s.hands w (take_pin m p g)) (λ x y. refl)
    (sym (running s (event.ReloadBegin w p m) none) ∙ h) in
    ap (λ z. (hand_at z w).moved) is ∙ ap (λ z. z.moved) (hand_now s.hands w (take_pin m p g) below) ∙ moved_now m p g

compact_hand : (s new : Core) (w p wanted : ℕ) → s.failure ≡ None → w < length s.hands → step_of s (event.CompactBegin w p wanted) ≡ Ok new
    → (hand_at new.hands w).moved ≡ Some p
compact_hand s new w p wanted none below h =
    let g = hand_at s.hands w in let after : Hand = record g { moved = Some p } in
    let is = on_hands s p (λ x. Rows.compact_begin_row s.limit (under_sum s.pools) (victim s.pools) x g p wanted) (λ x. record x { stage = stage.Compacting })
    (λ x y. record s { pools = in_place p y s.pools; hands = slice_set s.hands w after }) new
    (slice_set s.hands w after) (λ x y. refl) (sym (running s (event.CompactBegin w p wanted) none) ∙ h) in
    ap (λ z. (hand_at z w).moved) is ∙ ap (λ z. z.moved) (hand_now s.hands w after below)

offload_hand : (s new : Core) (w p wanted : ℕ) → s.failure ≡ None → w < length s.hands → step_of s (event.OffloadBegin w p wanted) ≡ Ok new
    → (hand_at new.hands w).moved ≡ Some p
offload_hand s new w p wanted none below h =
    let g = hand_at s.hands w in let after : Hand = record g { moved = Some p } in
    let is = on_hands s p (λ x. Rows.offload_begin_row s.limit (under_sum s.pools) (victim s.pools) x g p wanted s.disk)
    (λ x. record x { stage = stage.Offloading })
    (λ x y. record s { pools = in_place p y s.pools; hands = slice_set s.hands w after; disk = Some w }) new (slice_set s.hands w after) (λ x y. refl)
    (sym (running s (event.OffloadBegin w p wanted) none) ∙ h) in
    ap (λ z. (hand_at z w).moved) is ∙ ap (λ z. z.moved) (hand_now s.hands w after below)

read_now : (st : Stage) → is_read (Rows.with_reader st) ≡ true
read_now stage.Free = refl
read_now (stage.Read readers) = refl
read_now (stage.Written room) = refl
read_now stage.Compacted = refl
read_now stage.Offloaded = refl
read_now stage.Compacting = refl
read_now stage.Offloading = refl
read_now (stage.Reloading m from_disk) = refl

-- the pool after its event
pool_now : (s new : Core) (p : ℕ) (Was : Stage → Type 0) (f : Pool → Pool) (disk : Pool → Option ℕ) (d : Did s new p Was f disk)
    → pool_at new.pools p ≡ Some (f d.pool)
pool_now s new p Was f disk d = d.turned.found p ∙ ap (λ b. cond b (Some (f d.pool)) (pool_at s.pools p)) (number_itself p)

module _ {T B D : Type 0} (charge : T → ℕ) (spell : T → List ℕ) (bytes : D → Option (List ℕ)) (reach : D → ℕ) (honest : D → Bool) where
  content_kept : (old new : Paged T B D) (e : Event) (p : ℕ) (r : T) → Steps old e new → content_at old p ≡ Some r → content_at new p ≡ Some r
  content_kept old new e p r t at = ap (λ z. content_at z p) t.same ∙ at

  -- a pin that is handed out
  pub pin_handed : (old new : Paged T B D) (w p : ℕ) (m : Mode) (x : Pin T) → IsSound old.core → w < length old.core.hands
      → AnswersPin charge spell bytes reach honest old new w p m (answer.Ready x) → HasPin new w x
  pin_handed old new w p mode.Read (pin.Read x) sound below a =
      let t = a.0 in let same = a.1.0 in let none = ran old.core new.core (event.PinRead w p) refl t.step in
      let d = pin_read_did old.core new.core w p sound none t.step in
      subst (λ q. HoldsAt new w q (λ h. h.read) (λ st. is_read st ≡ true) (arc_value x.body)) (sym same) (record {
        hand = pin_read_hand old.core new.core w p none below t.step;
        pool = (record d.pool { stage = Rows.with_reader d.pool.stage }, pool_now old.core new.core p _ _ _ d, read_now d.pool.stage);
        content = content_kept old new (event.PinRead w p) p (arc_value x.body) t a.1.1;
      })
  pin_handed old new w p (mode.Write room) (pin.Write x) sound below a =
      let t = a.0 in let same = a.1.0 in let none = ran old.core new.core (event.PinWrite w p room) refl t.step in
      let d = pin_write_did old.core new.core w p room sound none t.step in
      subst (λ q. HoldsAt new w q (λ h. h.written) (λ st. is_written st ≡ true) (arc_value x.body)) (sym same) (record {
        hand = pin_write_hand old.core new.core w p room none below t.step;
        pool = (record d.pool { stage = stage.Written room }, pool_now old.core new.core p _ _ _ d, refl);
        content = content_kept old new (event.PinWrite w p room) p (arc_value x.body) t a.1.1;
      })
  pin_handed old new w p mode.Read (pin.Write x) sound below a = absurd a.1
  pin_handed old new w p (mode.Write room) (pin.Read x) sound below a = absurd a.1

  -- what a reload holds once it has begun, by the stage that the pool had
  reload_holds : (old new : Paged T B D) (w p : ℕ) (m : Mode) (was : Stage) (from_disk : Bool) (r : T) → IsSound old.core → w < length old.core.hands
      → Steps old (event.ReloadBegin w p m) new → stage_at old p ≡ Some was → is_offloaded was ≡ from_disk
      → content_at old p ≡ Some r → HoldsAt new w p (λ h. h.moved) (λ st. st ≡ stage.Reloading m from_disk) r
  reload_holds old new w p m was from_disk r sound below t lay from content =
      let none = ran old.core new.core (event.ReloadBegin w p m) refl t.step in
      let d = reload_begin_did old.core new.core w p m sound none t.step in
      let lies : d.pool.stage ≡ was = same_Some d.pool.stage was (sym (ap (option_map (λ x. x.stage)) d.at) ∙ lay) in
      record {
        hand = reload_hand old.core new.core w p m none below t.step;
        pool = (
          record d.pool { stage = stage.Reloading m (is_offloaded d.pool.stage) },
          pool_now old.core new.core p _ _ _ d,
          ap (λ b. stage.Reloading m b)
              (ap is_offloaded lies ∙ from),
        );
        content = content_kept old new (event.ReloadBegin w p m) p r t content;
      }

  -- the disk that is lent with an event
  disk_lent : (old new : Paged T B D) (e : Event) (w : ℕ) (d : D) → (IsTrusted reach honest old → IsGood reach honest old.core.limit old.disk) → Steps old e new
      → new.core.disk ≡ Some w → new.core.limit ≡ old.core.limit → d ≡ old.disk
      → HasDisk charge spell bytes reach honest new d
  disk_lent old new e w d good t out limit is =
      let kept : new.disk ≡ old.disk = ap (λ z. z.disk) t.same in
      let trusted : IsTrusted reach honest new
      → IsTrusted reach honest old = λ g. subst (λ n. IsGood reach honest n old.first) limit
      (subst (IsGood reach honest new.core.limit) (ap (λ z. z.first) t.same) g) in
      record {
        out = ap (λ z. z.home) t.same ∙ ap is_none out;
        good = λ g. subst (IsGood reach honest new.core.limit) (sym is) (subst (λ n. IsGood reach honest n old.disk) (sym limit) (good (trusted g)));
        same = λ g place. ap (λ z. byte_at (bytes z) place) (is ∙ sym kept);
      }

  -- a reload that is handed out
  pub reload_handed : (old new : Paged T B D) (w p : ℕ) (m : Mode) (x : Move T D) → IsSound old.core
      → (IsTrusted reach honest old → IsGood reach honest old.core.limit old.disk) → w < length old.core.hands
      → AnswersPin charge spell bytes reach honest old new w p m (answer.Reload x) → (r : T) × HasMoveOf charge spell bytes reach honest new w x r
  reload_handed old new w p m (move.FromBytes q b) sound good below a =
      let t = a.0 in let same = a.1.0 in let r = a.1.2.0 in (
        r,
        (
          (
            m,
            subst (λ z. HoldsAt new w z (λ h. h.moved) (λ st. st ≡ stage.Reloading m false) r) (sym same)
                (reload_holds old new w p m stage.Compacted false r sound below t a.1.1 refl a.1.2.1),
          ),
          a.1.2.2,
        ),
      )
  reload_handed old new w p m (move.FromDisk q filed number d) sound good below a =
      let t = a.0 in let same = a.1.0 in let r = a.1.2.0 in let is = a.1.2.1 in let rec = a.1.2.2 in
      let none = ran old.core new.core (event.ReloadBegin w p m) refl t.step in
      let e = reload_begin_did old.core new.core w p m sound none t.step in
      let limit = e.turned.limit_is in
      let lies : e.pool.stage ≡ stage.Offloaded = same_Some e.pool.stage stage.Offloaded (sym (ap (option_map (λ z. z.stage)) e.at) ∙ a.1.1) in
      let out : new.core.disk ≡ Some w = e.turned.disk_is ∙ ap (λ z. if is_offloaded z then Some w else old.core.disk) lies in
      let trusted : IsTrusted reach honest new
      → IsTrusted reach honest old = λ g. subst (λ n. IsGood reach honest n old.first) limit
      (subst (IsGood reach honest new.core.limit) (ap (λ z. z.first) t.same) g) in (
        r,
        (
          (
            m,
            subst (λ z. HoldsAt new w z (λ h. h.moved) (λ st. st ≡ stage.Reloading m true) r) (sym same)
                (reload_holds old new w p m stage.Offloaded true r sound below t a.1.1 refl rec.content),
          ),
          is ∙ (λ i. record_of (sym same i * sym limit i) (spell r)),
          rec.charge_is,
          (λ g. subst (λ z. HasBytes (bytes d) (z * new.core.limit) (spell r)) (sym same)
              (subst (λ n. HasBytes (bytes d) (p * n) (spell r)) (sym limit) (rec.there (trusted g)))),
          disk_lent old new (event.ReloadBegin w p m) w d good t out limit rec.disk_is,
        ),
      )
  reload_handed old new w p m (move.Compacting q b) sound good below a = absurd a.1
  reload_handed old new w p m (move.Offloading q place b d) sound good below a = absurd a.1

  -- a move of the victim that is handed out
  pub move_handed : (old new : Paged T B D) (w wanted : ℕ) (x : Move T D) → IsSound old.core
      → (IsTrusted reach honest old → IsGood reach honest old.core.limit old.disk) → w < length old.core.hands
      → AnswersEvict spell old new w wanted (evict.Begun x) → (r : T) × HasMoveOf charge spell bytes reach honest new w x r
  move_handed old new w wanted (move.Compacting p a) sound good below b =
      let t = b.1.1 in let none = ran old.core new.core (event.CompactBegin w p wanted) refl t.step in
      let d = compact_begin_did old.core new.core w p wanted sound none t.step in (
        arc_value a,
        (
          record {
            hand = compact_hand old.core new.core w p wanted none below t.step;
            pool = (record d.pool { stage = stage.Compacting }, pool_now old.core new.core p _ _ _ d, refl);
            content = content_kept old new (event.CompactBegin w p wanted) p (arc_value a) t b.1.2;
          },
          refl,
        ),
      )
  move_handed old new w wanted (move.Offloading p place v d) sound good below b =
      let t = b.1.1 in let none = ran old.core new.core (event.OffloadBegin w p wanted) refl t.step in
      let e = offload_begin_did old.core new.core w p wanted sound none t.step in
      let r = b.1.5.0 in (
        r,
        (
          record {
            hand = offload_hand old.core new.core w p wanted none below t.step;
            pool = (record e.pool { stage = stage.Offloading }, pool_now old.core new.core p _ _ _ e, refl);
            content = content_kept old new (event.OffloadBegin w p wanted) p r t b.1.5.1;
          },
          b.1.2 ∙ ap (λ n. p * n) (sym e.turned.limit_is),
          b.1.5.2,
          disk_lent old new (event.OffloadBegin w p wanted) w d good t e.turned.disk_is e.turned.limit_is b.1.3,
        ),
      )
  move_handed old new w wanted (move.FromBytes p v) sound good below b = absurd b.1
  move_handed old new w wanted (move.FromDisk p filed number d) sound good below b = absurd b.1
