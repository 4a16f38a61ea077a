-- A pin for reading ends.
use Rattle.std.proofs.Common.{◌≡◌, ◌≢◌, ℕ, ◌+◌, ◌-◌, ◌*◌, ◌≤◌, Bool, true, false, List, [], ◌∷◌, Option, Some, None, Vec, Err, refl, sym, ap, subst}
use Rattle.std.proofs.Common.{arith, ◌∙◌, ◌⊎◌, inl, inr}
use Rattle.std.specs.Prelude.{option_map, nat_lt, not, ◌&&◌, ◌==◌, if◌then◌else◌}
use Rattle.std.specs.declared.alloc.Global.{Global}
use Rattle.std.proofs.lemmas.Bool.Decides.{nat_tests}
use Rattle.std.proofs.lemmas.Option.{same_Some}
use Rattle.naim_core.specs.Charges.{under_sum}
use Rattle.naim_core.specs.Rows
use Rattle.naim_core.specs.State.{Core, pool_at, hand_at, holds, is_read, view_of, readers_at}
use Rattle.naim_core.specs.Steps.{permit, then_state, front, with_hand, step_of}
use Rattle.naim_core.specs.declared.event.Event.TheVariants as event
use Rattle.naim_core.specs.declared.event.Form.{Form}
use Rattle.naim_core.specs.declared.event.Form.TheVariants as form
use Rattle.naim_core.specs.declared.event.Refusal.{Refusal}
use Rattle.naim_core.specs.declared.event.Refusal.TheVariants.{NotHeld, TooSmall, NeedsRoom}
use Rattle.naim_core.specs.declared.pool.Pool.{Pool}
use Rattle.naim_core.specs.declared.pool.PoolView.{PoolView}
use Rattle.naim_core.specs.declared.pool.Stage.{Stage}
use Rattle.naim_core.specs.declared.pool.Stage.TheVariants as stage
use Rattle.naim_core.proofs.Effects.{running, unpin_read_did}
use Rattle.list_laws.proofs.Entries.{number_itself, other_number}
use Rattle.naim_loader.specs.declared.counters.Counters.{Counters}
use Rattle.naim_loader.specs.declared.home.Home.{Home}
use Rattle.naim_loader.specs.declared.table.Entry.{Entry}
use Rattle.naim_loader.specs.declared.table.Lying.{Lying}
use Rattle.naim_loader.specs.declared.table.Lying.TheVariants as lying
use Rattle.naim_loader.specs.Counting.{Stepped}
use Rattle.naim_loader.specs.Forms.{LiesAs, LiesPacked, is_filed}
use Rattle.naim_loader.specs.Rows.{Puts}
use Rattle.naim_loader.specs.Whole.{IsWhole}
use Rattle.naim_loader.proofs.Wholes.{whole_moved, there, found_same}

-- an end of a pin is refused only for want of room
behind : (a last t n : Bool) (c k : ℕ) (x : Pool) (h : Pool → Core) (r : Refusal) → a ≡ false → t ≡ false
    → then_state (permit ((a, NotHeld) ∷ (if last then (t, TooSmall c) ∷ (n, NeedsRoom k) ∷ [] else [])) x) h ≡ Err r → r ≡ NeedsRoom k
behind true last t n c k x h r p q e = cc
behind false true true n c k x h r p q e = cc
behind false true false true c k x h r p q e = cc
behind false true false false c k x h r p q e = cc
behind false false t n c k x h r p q e = cc

not_less : (m n : ℕ) → n ≤ m → nat_lt m n ≡ false
not_less m n h = grind (arith, nat_tests)

fits_limit : (f : Form) (limit c : ℕ) → c ≤ limit → (Rows.is_compact_form f && nat_lt limit c) ≡ false
fits_limit form.Expanded limit c h = refl
fits_limit form.Compacted limit c h = not_less limit c h

held_read : (t : Option ℕ) (p : ℕ) (b : Bool) → t ≡ Some p → b ≡ true → not (holds t p && b) ≡ false
held_read t p b h e = ap (λ o. not (holds o p && b)) h ∙ ap (λ z. not (z && b)) (number_itself p) ∙ ap not e

pub unpin_refused : (s : Core) (w p : ℕ) (f : Form) (x : Pool) (r : Refusal) → s.failure ≡ None → pool_at s.pools p ≡ Some x → is_read x.stage ≡ true
    → (hand_at s.hands w).read ≡ Some p → x.c ≤ s.limit → step_of s (event.UnpinRead w p f) ≡ Err r
    → r ≡ NeedsRoom (Rows.bytes_of f x.e x.c)
unpin_refused s w p f x r none at read held short h =
    let g = hand_at s.hands w in
    let h' = sym (running s (event.UnpinRead w p f) none) ∙ h in
    let here = rw at at h' in
    behind (not (holds g.read p && is_read x.stage)) (Rows.is_last_reader x.stage) (Rows.is_compact_form f && nat_lt s.limit x.c)
    (nat_lt s.limit (under_sum s.pools + Rows.bytes_of f x.e x.c)) x.c (Rows.bytes_of f x.e x.c)
    (record x { stage = Rows.without_reader f x.stage }) (λ y. record s { pools = front p y s.pools; hands = with_hand s w (record g { read = None }) }) r
    (held_read g.read p (is_read x.stage) held read) (fits_limit f s.limit x.c short) here

module _ {T : Type 0} (spell : T → List ℕ) where
  -- the body stays whole, where others read it or it is left so
  pub lies_left : (place : ℕ) (f : Form) (st : Stage) (b : Lying T) (r : T) → is_read st ≡ true → (f ≡ form.Expanded) ⊎ (Rows.is_last_reader st ≡ false)
      → LiesAs spell place st b r → LiesAs spell place (Rows.without_reader f st) b r
  lies_left place f (stage.Read n) b r e c l = by (n == 1) refl
    where
      whole : (g : Form) → g ≡ form.Expanded → LiesAs spell place (Rows.free_in g) b r
      whole form.Expanded k = l
      whole form.Compacted k = cc

      by : (last : Bool) → (n == 1) ≡ last → LiesAs spell place (if last then Rows.free_in f else stage.Read (n - 1)) b r
      by false k = l
      by true k = elim c [ inl g ↦ whole f g | inr g ↦ absurd (let q : true ≡ false = sym k ∙ g in cc) ]
  lies_left place f stage.Free b r e c l = cc
  lies_left place f (stage.Written room) b r e c l = cc
  lies_left place f stage.Compacted b r e c l = cc
  lies_left place f stage.Offloaded b r e c l = cc
  lies_left place f stage.Compacting b r e c l = cc
  lies_left place f stage.Offloading b r e c l = cc
  lies_left place f (stage.Reloading m from_disk) b r e c l = cc

  -- the last reader leaves it packed
  pub lies_packed_left : (place : ℕ) (st : Stage) (b : Lying T) (r : T) → is_read st ≡ true → Rows.is_last_reader st ≡ true → LiesPacked spell b r
      → LiesAs spell place (Rows.without_reader form.Compacted st) b r
  lies_packed_left place (stage.Read n) b r e last l = by (n == 1) last
    where
      by : (k : Bool) → k ≡ true → LiesAs spell place (if k then stage.Compacted else stage.Read (n - 1)) b r
      by true h = l
      by false h = cc
  lies_packed_left place stage.Free b r e c l = cc
  lies_packed_left place (stage.Written room) b r e c l = cc
  lies_packed_left place stage.Compacted b r e c l = cc
  lies_packed_left place stage.Offloaded b r e c l = cc
  lies_packed_left place stage.Compacting b r e c l = cc
  lies_packed_left place stage.Offloading b r e c l = cc
  lies_packed_left place (stage.Reloading m from_disk) b r e c l = cc

-- one reader alone, by what is told of the pool
pub last_told : (o : Option Pool) (x : Pool) (v : PoolView) → o ≡ Some x → option_map view_of o ≡ Some v → is_read x.stage ≡ true → v.readers ≡ 1
    → Rows.is_last_reader x.stage ≡ true
last_told o x v at told read one = by x.stage read (ap (λ z. z.readers) (same_Some (view_of x) v (sym (ap (option_map view_of) at) ∙ told)) ∙ one)
  where
    by : (st : Stage) → is_read st ≡ true → readers_at st ≡ 1 → Rows.is_last_reader st ≡ true
    by (stage.Read n) e k = ap (λ z. z == 1) k
    by stage.Free e k = cc
    by (stage.Written room) e k = cc
    by stage.Compacted e k = cc
    by stage.Offloaded e k = cc
    by stage.Compacting e k = cc
    by stage.Offloading e k = cc
    by (stage.Reloading m from_disk) e k = cc

pub not_last_told : (o : Option Pool) (x : Pool) (v : PoolView) → o ≡ Some x → option_map view_of o ≡ Some v → is_read x.stage ≡ true → v.readers ≢ 1
    → Rows.is_last_reader x.stage ≡ false
not_last_told o x v at told read more = by x.stage read (λ k. more
    (sym (ap (λ z. z.readers) (same_Some (view_of x) v (sym (ap (option_map view_of) at) ∙ told))) ∙ k))
  where
    by : (st : Stage) → is_read st ≡ true → (readers_at st ≡ 1 → ⊥) → Rows.is_last_reader st ≡ false
    by (stage.Read n) e k = other_number n 1 k
    by stage.Free e k = cc
    by (stage.Written room) e k = cc
    by stage.Compacted e k = cc
    by stage.Offloaded e k = cc
    by stage.Compacting e k = cc
    by stage.Offloading e k = cc
    by (stage.Reloading m from_disk) e k = cc

left_unfiled : (f : Form) (st : Stage) → is_read st ≡ true → is_filed (Rows.without_reader f st) ≡ true → ⊥
left_unfiled f (stage.Read n) e = by (n == 1)
  where
    free : (g : Form) → is_filed (Rows.free_in g) ≡ true → ⊥
    free form.Expanded k = cc
    free form.Compacted k = cc

    by : (last : Bool) → is_filed (if last then Rows.free_in f else stage.Read (n - 1)) ≡ true → ⊥
    by true k = free f k
    by false k = cc
left_unfiled f stage.Free e = cc
left_unfiled f (stage.Written room) e = cc
left_unfiled f stage.Compacted e = cc
left_unfiled f stage.Offloaded e = cc
left_unfiled f stage.Compacting e = cc
left_unfiled f stage.Offloading e = cc
left_unfiled f (stage.Reloading m from_disk) e = cc

module _ {T B D : Type 0} (charge : T → ℕ) (spell : T → List ℕ) (is_value : T → Type 0) (bytes : D → Option (List ℕ)) (reach : D → ℕ) (honest : D → Bool) where
  abbrev Whole : ℕ → Core → List (ℕ × Entry T B) → Home D → D → Counters → Type 0
  Whole = IsWhole charge spell is_value bytes reach honest

  pub unpin_whole : (limit w p : ℕ) (f : Form) (s new : Core) (x : Pool) (rows : List (ℕ × Entry T B)) (disk : Home D) (first : D) (before after : Counters)
      → Whole limit s rows disk first before → s.failure ≡ None → pool_at s.pools p ≡ Some x
      → (f ≡ form.Expanded) ⊎ (Rows.is_last_reader x.stage ≡ false) → Stepped s (event.UnpinRead w p f) new before after → Whole limit new rows disk first after
  unpin_whole limit w p f s new x rows disk first before after wh none at c t =
      let d = unpin_read_did s new w p f wh.sound none t.step in let z = d.pool in
      let same : x ≡ z = same_Some x z (sym at ∙ d.at) in
      let th = there charge spell is_value bytes reach honest limit s rows disk first before p z wh d.at in
      whole_moved charge spell is_value bytes reach honest limit s new p z (record z { stage = Rows.without_reader f z.stage }) th.entry th.entry.body s.disk
      (event.UnpinRead w p f) rows rows disk disk first before after wh (record {
        running = none;
        pool = d.at;
        entry = th.at;
        turned = d.turned;
        step = t;
        charge_same = refl;
        length_same = refl;
        differ = wh.differ;
        found = found_same charge spell is_value bytes reach honest rows p th.entry th.at;
        lies = lies_left spell (p * limit) f z.stage th.entry.body th.entry.value.value d.was
            (subst (λ v. (f ≡ form.Expanded) ⊎ (Rows.is_last_reader v.stage ≡ false)) same c) (th.standing.lies none);
        filed = λ k. absurd (left_unfiled f z.stage d.was k);
        same = refl;
        home = wh.home none;
      })

  pub unpin_packed : (limit w p : ℕ) (s new : Core) (x : Pool) (v : Vec ℕ Global) (was : Lying T) (rows rows' : List (ℕ × Entry T B)) (disk : Home D)
      (first : D) (before after : Counters) → Whole limit s rows disk first before → s.failure ≡ None
      → pool_at s.pools p ≡ Some x → Rows.is_last_reader x.stage ≡ true → Stepped s (event.UnpinRead w p form.Compacted) new before after
      → (put : Puts rows rows' p (lying.Packed v) was) → v.items ≡ spell put.entry.value.value → Whole limit new rows' disk first after
  unpin_packed limit w p s new x v was rows rows' disk first before after wh none at last t put spelled =
      let d = unpin_read_did s new w p form.Compacted wh.sound none t.step in let z = d.pool in
      let same : x ≡ z = same_Some x z (sym at ∙ d.at) in
      whole_moved charge spell is_value bytes reach honest limit s new p z (record z { stage = Rows.without_reader form.Compacted z.stage }) put.entry
      (lying.Packed v) s.disk (event.UnpinRead w p form.Compacted) rows rows' disk disk first before after wh (record {
        running = none;
        pool = d.at;
        entry = put.at;
        turned = d.turned;
        step = t;
        charge_same = refl;
        length_same = refl;
        differ = put.differ;
        found = put.found;
        lies = lies_packed_left spell (p * limit) z.stage (lying.Packed v) put.entry.value.value d.was (ap (λ k. Rows.is_last_reader k.stage) (sym same) ∙ last)
            spelled;
        filed = λ k. absurd (left_unfiled form.Compacted z.stage d.was k);
        same = refl;
        home = wh.home none;
      })
