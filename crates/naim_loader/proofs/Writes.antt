-- Pins for writing: a body is handed out, and a new value comes in its place.
use denote.Enum.Bare.{sameb}
use Rattle.std.proofs.Common.{◌≡◌, ℕ, ◌+◌, ◌<◌, ◌≤◌, ◌^◌, Bool, true, false, List, [], ◌∷◌, ◌++◌, length, Option, Some, None, IsSome, Err, refl, sym}
use Rattle.std.proofs.Common.{ap, subst, arith, ◌∙◌, ◌⊎◌, inl, inr}
use Rattle.std.specs.Prelude.{is_some, nat_lt, not, option_map, ◌&&◌, ◌||◌, if◌then◌else◌}
use Rattle.std.proofs.lemmas.Option.{same_Some}
use Rattle.naim_core.specs.Charges.{under_sum}
use Rattle.naim_core.specs.Rows
use Rattle.naim_core.specs.State.{Core, pool_at, hand_at, holds, is_away, is_moving, is_pinned, is_written, form_at, readers_at, view_of}
use Rattle.naim_core.specs.Sound.{IsFitStage}
use Rattle.naim_core.specs.Steps.{permit, then_state, front, with_hand, step_of}
use Rattle.naim_core.specs.declared.event.Event.TheVariants as event
use Rattle.naim_core.specs.declared.event.Form.{Form}
use Rattle.naim_core.specs.declared.event.Mode.TheVariants as mode
use Rattle.naim_core.specs.declared.event.Refusal.{Refusal}
use Rattle.naim_core.specs.declared.event.Refusal.TheVariants.{HandFull, NoTask, NotHeld, Moving, WrongForm, InUse, BadSize, TooSmall, NeedsRoom}
use Rattle.naim_core.specs.declared.pool.Pool.{Pool}
use Rattle.naim_core.specs.contracts.pool.PoolForm.{the_type}
use Rattle.naim_core.specs.declared.pool.PoolForm.TheVariants as pool_form
use Rattle.naim_core.specs.declared.pool.PoolView.{PoolView}
use Rattle.naim_core.specs.declared.pool.Stage.{Stage}
use Rattle.naim_core.specs.declared.pool.Stage.TheVariants as stage
use Rattle.naim_core.proofs.Effects.{running, pin_write_did, unpin_write_did}
use Rattle.list_laws.proofs.Entries.{number_itself}
use Rattle.naim_loader.specs.declared.counters.Counters.{Counters}
use Rattle.naim_loader.specs.declared.home.Home.{Home}
use Rattle.naim_loader.specs.declared.table.Entry.{Entry}
use Rattle.naim_loader.specs.declared.table.Lying.{Lying}
use Rattle.naim_loader.specs.declared.table.Lying.TheVariants as lying
use Rattle.naim_loader.specs.Calls.{Allows}
use Rattle.naim_loader.specs.Counting.{Stepped}
use Rattle.naim_loader.specs.Forms.{LiesIn, is_filed}
use Rattle.naim_loader.specs.Rows.{Puts, Renews}
use Rattle.naim_loader.specs.Whole.{IsWhole}
use Rattle.naim_loader.proofs.Inserts.{placed_whole}
use Rattle.naim_loader.proofs.Reloads.{own_task, not_less}
use Rattle.naim_loader.proofs.Wholes.{whole_moved}

-- a free pool that may be written isn't refused
none_fails : (a b g : Bool) (x : Pool) (h : Pool → Core) (r : Refusal) → a ≡ false → b ≡ false → g ≡ false
    → then_state (permit ((a, HandFull) ∷ (b, NoTask) ∷ (false, Moving) ∷ (false, WrongForm) ∷ (false, InUse) ∷ (g, BadSize) ∷ []) x) h ≡ Err r → ⊥
none_fails true b g x h r p q t k = cc
none_fails false true g x h r p q t k = cc
none_fails false false true x h r p q t k = cc
none_fails false false false x h r p q t k = cc

pub pin_write_taken : (s : Core) (w p room : ℕ) (x : Pool) (r : Refusal) → s.failure ≡ None → pool_at s.pools p ≡ Some x → x.stage ≡ stage.Free
    → Allows s w p (mode.Write room) → step_of s (event.PinWrite w p room) ≡ Err r → ⊥
pin_write_taken s w p room x r none at free allowed h =
    let g = hand_at s.hands w in
    let h' = sym (running s (event.PinWrite w p room) none) ∙ h in
    let here = rw at at h' in
    let row : Stage → Rows.Row = λ st. (is_some g.written, HandFull) ∷ (s.in_wave && not (holds g.task p), NoTask) ∷ (is_moving st, Moving) ∷
    (is_away st, WrongForm) ∷ (is_pinned st, InUse) ∷ (nat_lt (2 ^ 41) room, BadSize) ∷ [] in
    let y : Pool = record x { stage = stage.Written room } in
    let made : Pool → Core = λ y. record s { pools = front p y s.pools; hands = with_hand s w (record g { written = Some p }) } in
    none_fails (is_some g.written) (s.in_wave && not (holds g.task p)) (nat_lt (2 ^ 41) room) y made r
    (ap is_some allowed.pin) (own_task true s.in_wave g.task p allowed.task) (not_less (2 ^ 41) room allowed.room)
    (subst (λ st. then_state (permit (row st) y) made ≡ Err r) free here)

-- a pool that is there
pub some_pool : (o : Option Pool) → IsSome o → (x : Pool) × (o ≡ Some x)
some_pool None h = cc
some_pool (Some x) h = (x, refl)

-- an expanded pool that nobody writes or reads is free, by what is told of it
pub free_told : (o : Option Pool) (v : PoolView) → IsSome o → option_map view_of o ≡ Some v → not (sameb the_type v.form pool_form.Expanded) ≡ false
    → v.writer ≡ false → v.readers ≤ 0 → ((x : Pool) → o ≡ Some x → IsFitStage x.stage)
    → (x : Pool) × (o ≡ Some x) × (x.stage ≡ stage.Free)
free_told None v there told form alone none fit = cc
free_told (Some x) v there told form alone none fit =
    let same = same_Some (view_of x) v told in (
      x,
      refl,
      by x.stage (ap (λ z. not (sameb the_type z.form pool_form.Expanded)) same ∙ form) (ap (λ z. z.writer) same ∙ alone)
          (subst (λ z. z.readers ≤ 0) (sym same) none) (fit x refl),
    )
  where
    by : (st : Stage) → not (sameb the_type (form_at st) pool_form.Expanded) ≡ false → is_written st ≡ false → readers_at st ≤ 0 → IsFitStage st
        → st ≡ stage.Free
    by stage.Free e u n f = refl
    by (stage.Read readers) e u n f = (let k : 0 < readers = f in let m : readers ≤ 0 = n in absurd (omega arith))
    by (stage.Written room) e u n f = cc
    by stage.Compacted e u n f = cc
    by stage.Offloaded e u n f = cc
    by stage.Compacting e u n f = cc
    by stage.Offloading e u n f = cc
    by (stage.Reloading m from_disk) e u n f = cc

written_unfiled : (room : ℕ) → is_filed (stage.Written room) ≡ true → ⊥
written_unfiled room e = cc

-- the end of a pin is refused only for want of room
held_written : (t : Option ℕ) (p : ℕ) (b : Bool) → t ≡ Some p → b ≡ true → not (holds t p && b) ≡ false
held_written t p b h e = ap (λ o. not (holds o p && b)) h ∙ ap (λ z. not (z && b)) (number_itself p) ∙ ap not e

no_three : (a b d : Bool) → a ≡ false → b ≡ false → d ≡ false → (a || b || d) ≡ false
no_three true b d e f g = cc
no_three false true d e f g = cc
no_three false false true e f g = cc
no_three false false false e f g = refl

fit_refused : (a b small : Bool) (room : Bool) (c n : ℕ) (x : Pool) (g : Pool → Core) (r : Refusal) → a ≡ false → b ≡ false
    → then_state (permit ((a, NotHeld) ∷ (b, BadSize) ∷ (small, TooSmall c) ∷ (room, NeedsRoom n) ∷ []) x) g ≡ Err r → (r ≡ TooSmall c) ⊎ (r ≡ NeedsRoom n)
fit_refused true b small room c n x g r p q e = cc
fit_refused false true small room c n x g r p q e = cc
fit_refused false false true room c n x g r p q e = inl cc
fit_refused false false false true c n x g r p q e = inr cc
fit_refused false false false false c n x g r p q e = cc

pub write_refused : (s : Core) (w p : ℕ) (f : Form) (e c : ℕ) (x : Pool) (r : Refusal) → s.failure ≡ None → pool_at s.pools p ≡ Some x
    → is_written x.stage ≡ true → (hand_at s.hands w).written ≡ Some p → c ≤ e → e ≤ 2 ^ 40 → e + c ≤ Rows.stated_room x.stage
    → step_of s (event.UnpinWrite w p f e c) ≡ Err r → (r ≡ TooSmall c) ⊎ (r ≡ NeedsRoom (Rows.bytes_of f e c))
write_refused s w p f e c x r none at written held short charge room h =
    let g = hand_at s.hands w in
    let h' = sym (running s (event.UnpinWrite w p f e c) none) ∙ h in
    let here = rw at at h' in
    fit_refused (not (holds g.written p && is_written x.stage)) (nat_lt e c || nat_lt (2 ^ 40) e || nat_lt (Rows.stated_room x.stage) (e + c))
    (Rows.is_compact_form f && nat_lt s.limit c) (nat_lt s.limit (under_sum s.pools + Rows.bytes_of f e c)) c (Rows.bytes_of f e c)
    (Rows.inserted f e c) (λ y. record s {
      pools = front p y s.pools;
      hands = with_hand s w (record g { written = None; task = if holds g.task p then None else g.task });
      done = if holds g.task p then s.done ++ p ∷ [] else s.done;
    }) r (held_written g.written p (is_written x.stage) held written)
    (no_three (nat_lt e c) (nat_lt (2 ^ 40) e) (nat_lt (Rows.stated_room x.stage) (e + c)) (not_less e c short) (not_less (2 ^ 40) e charge)
    (not_less (Rows.stated_room x.stage) (e + c) room)) here

module _ {T B D : Type 0} (charge : T → ℕ) (spell : T → List ℕ) (is_value : T → Type 0) (bytes : D → Option (List ℕ)) (reach : D → ℕ) (honest : D → Bool) where
  abbrev Whole : ℕ → Core → List (ℕ × Entry T B) → Home D → D → Counters → Type 0
  Whole = IsWhole charge spell is_value bytes reach honest

  pub pin_write_whole : (limit w p room : ℕ) (s new : Core) (rows rows' : List (ℕ × Entry T B)) (disk : Home D) (first : D) (before after : Counters)
      (was : Lying T) → Whole limit s rows disk first before → s.failure ≡ None
      → Stepped s (event.PinWrite w p room) new before after → Puts rows rows' p lying.Out was → Whole limit new rows' disk first after
  pin_write_whole limit w p room s new rows rows' disk first before after was wh none t put =
      let d = pin_write_did s new w p room wh.sound none t.step in let x = d.pool in
      whole_moved charge spell is_value bytes reach honest limit s new p x (record x { stage = stage.Written room }) put.entry lying.Out s.disk
      (event.PinWrite w p room) rows rows' disk disk first before after wh (record {
        running = none;
        pool = d.at;
        entry = put.at;
        turned = d.turned;
        step = t;
        charge_same = refl;
        length_same = refl;
        differ = put.differ;
        found = put.found;
        lies = tt;
        filed = λ f. absurd (written_unfiled room f);
        same = refl;
        home = wh.home none;
      })

  pub write_whole : (limit w p : ℕ) (s new : Core) (rows rows' : List (ℕ × Entry T B)) (disk : Home D) (first : D) (before after : Counters) (f : Form)
      (e c : ℕ) (x : Entry T B) → Whole limit s rows disk first before → s.failure ≡ None
      → Stepped s (event.UnpinWrite w p f e c) new before after → Renews rows rows' p (Some x) → p < 131072 → is_value x.value.value → e ≡ charge x.value.value
      → c ≡ length (spell x.value.value) → LiesIn spell f x.body x.value.value
      → Whole limit new rows' disk first after
  write_whole limit w p s new rows rows' disk first before after f e c x w' none t put =
      placed_whole charge spell is_value bytes reach honest limit p s new (event.UnpinWrite w p f e c) rows rows' disk first before after f e c x w' none
      (unpin_write_did s new w p f e c w'.sound none t.step).turned t put
