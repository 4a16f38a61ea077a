-- A loader stays whole.
use Rattle.std.proofs.Common.{◌≡◌, ℕ, ◌*◌, ◌≤◌, Bool, true, false, cond, nat_eq, List, length, Option, Some, None, Result, Ok, Err, refl, sym, ap}
use Rattle.std.proofs.Common.{subst, arith, ◌∙◌}
use Rattle.std.specs.Prelude.{IfErr, IfOk, is_none, is_some, max}
use Rattle.std.specs.List.{IsDistinct}
use Rattle.std.specs.Map.{keys_of, lookup}
use Rattle.std.proofs.lemmas.Option.{same_Some}
use Rattle.repository.specs.Record.{HasBytes}
use Rattle.naim_core.specs.Charges.{under_sum}
use Rattle.naim_core.specs.State.{Core, pool_at}
use Rattle.naim_core.specs.Sound.{IsSound, RecordsApart}
use Rattle.naim_core.specs.Steps.{Follows, is_fail, step_of}
use Rattle.naim_core.specs.declared.event.Event.{Event}
use Rattle.naim_core.specs.declared.pool.Pool.{Pool}
use Rattle.naim_core.specs.declared.event.Failure.{Failure}
use Rattle.naim_core.specs.declared.event.Refusal.{Refusal}
use Rattle.naim_core.specs.declared.event.Refusal.TheVariants.{Stopped}
use Rattle.naim_core.proofs.Effects.{Turned, follows_err, follows_ok, stopped}
use Rattle.list_laws.proofs.Entries.{same_number}
use Rattle.naim_loader.specs.declared.counters.Counters.{Counters}
use Rattle.naim_loader.specs.declared.home.Home.{Home}
use Rattle.naim_loader.specs.declared.table.Entry.{Entry}
use Rattle.naim_loader.specs.declared.table.Lying.{Lying}
use Rattle.naim_loader.specs.Counting.{counted, Refused, Stepped}
use Rattle.naim_loader.specs.Forms.{LiesAs, is_filed}
use Rattle.naim_loader.specs.Home.{told, is_home}
use Rattle.naim_loader.specs.Paged.{IsGood}
use Rattle.naim_loader.specs.Rows.{Puts}
use Rattle.naim_loader.specs.Whole.{Standing, Stands, IsWhole}

-- an event that was taken
pub stepped : (s : Core) (e : Event) (new : Core) (before after : Counters) → Follows (step_of s e) s (Ok tt) new → IsSound new → RecordsApart new
    → new.limit ≡ s.limit → length new.hands ≡ length s.hands → after ≡ counted e before new
    → Stepped s e new before after
stepped s e new before after f sound apart limit workers counts =
    record { step = follows_ok (step_of s e) s new f; sound = sound; apart = apart; limit = limit; workers = workers; counts = counts }

-- an event that was refused
pub refused : (s : Core) (e : Event) (r : Refusal) (new : Core) (before after : Counters) → Follows (step_of s e) s (Err r) new → after ≡ before
    → Refused s e r new before after
refused s e r new before after f counts = let k = follows_err (step_of s e) s new r f in record { step = k.1; same = k.0; counts = counts }

pub peak_kept : (limit : ℕ) (s new : Core) (event : Event) (before after : Counters) → s.limit ≡ limit → before.under_peak ≤ limit
    → Stepped s event new before after → after.under_peak ≤ limit
peak_kept limit s new event before after l p t =
    let e : after.under_peak ≡ max before.under_peak (under_sum new.pools) = ap (λ c. c.under_peak) t.counts in let f = t.sound.under_fits in let k = t.limit
    in omega arith

no_some : (o : Option Failure) → is_some o ≡ true → o ≡ None → ⊥
no_some None h e = cc
no_some (Some f) h e = cc

-- pools, disk and failure are what they were
pub record Still (s new : Core) : Type 0 where
  pub pools : new.pools ≡ s.pools
  pub disk : new.disk ≡ s.disk
  pub failure : new.failure ≡ s.failure

-- an event that was taken, and that tells no failure, found none kept
pub ran : (s new : Core) (e : Event) → is_fail e ≡ false → step_of s e ≡ Ok new → s.failure ≡ None
ran s new e other h = by s.failure refl
  where
    by : (o : Option Failure) → s.failure ≡ o → s.failure ≡ None
    by None k = k
    by (Some f) k = (let q : Err Stopped ≡ Ok new = sym (stopped s e (ap is_some k) other) ∙ h in cc)

module _ {T B D : Type 0} (charge : T → ℕ) (spell : T → List ℕ) (is_value : T → Type 0) (bytes : D → Option (List ℕ)) (reach : D → ℕ) (honest : D → Bool) where
  abbrev Whole : ℕ → Core → List (ℕ × Entry T B) → Home D → D → Counters → Type 0
  Whole = IsWhole charge spell is_value bytes reach honest

  -- a refused event leaves it
  pub whole_same : (limit : ℕ) (s new : Core) (rows : List (ℕ × Entry T B)) (disk : Home D) (first : D) (before after : Counters)
      → Whole limit s rows disk first before → new ≡ s → after ≡ before → Whole limit new rows disk first after
  whole_same limit s new rows disk first before after w e f = subst (λ z. Whole limit z rows disk first after) (sym e)
      (subst (Whole limit s rows disk first) (sym f) w)

  pub whole_refused : (limit : ℕ) (s new : Core) (event : Event) (r : Refusal) (rows : List (ℕ × Entry T B)) (disk : Home D) (first : D)
      (before after : Counters) → Whole limit s rows disk first before → Refused s event r new before after → Whole limit new rows disk first after
  whole_refused limit s new event r rows disk first before after w f = whole_same limit s new rows disk first before after w f.same f.counts

  -- an event that changes no pool, nor who has the disk
  pub whole_still : (limit : ℕ) (s new : Core) (event : Event) (rows : List (ℕ × Entry T B)) (disk : Home D) (first : D) (before after : Counters)
      → Whole limit s rows disk first before → Stepped s event new before after → Still s new → Whole limit new rows disk first after
  whole_still limit s new event rows disk first before after w t still = record {
    limit_is = t.limit ∙ w.limit_is;
    small = w.small;
    workers = (let a = w.workers in let b = t.workers in omega arith);
    sound = t.sound;
    differ = w.differ;
    stands = λ q. subst (λ z. Stands charge spell is_value limit (z ≡ None) (IsGood reach honest limit first) (bytes (told disk)) q (pool_at new.pools q)
        (lookup (nat_eq q) rows)) (sym still.failure)
        (subst (λ z. Stands charge spell is_value limit (s.failure ≡ None) (IsGood reach honest limit first) (bytes (told disk)) q (pool_at z q)
        (lookup (nat_eq q) rows)) (sym still.pools) (w.stands q));
    home = λ n. w.home (sym still.failure ∙ n) ∙ ap is_none (sym still.disk);
    good = w.good;
    peak = peak_kept limit s new event before after w.limit_is w.peak t;
  }

  -- the same whether it was taken or refused
  pub whole_answered : (limit : ℕ) (s new : Core) (event : Event) (r : Result (Unit {0}) Refusal) (rows : List (ℕ × Entry T B)) (disk : Home D) (first : D)
      (before after : Counters) → Whole limit s rows disk first before
      → IfOk r (λ _. Stepped s event new before after) → IfErr r (λ x. Refused s event x new before after) → (step_of s event ≡ Ok new → Still s new)
      → Whole limit new rows disk first after
  whole_answered limit s new event (Ok u) rows disk first before after w t f still = whole_still limit s new event rows disk first before after w t
      (still t.step)
  whole_answered limit s new event (Err x) rows disk first before after w t f still = whole_refused limit s new event x rows disk first before after w f

  -- a pool that is there with what is kept of it
  pub record There (limit : ℕ) (s : Core) (rows : List (ℕ × Entry T B)) (disk : Home D) (first : D) (p : ℕ) (x : Pool) : Type 0 where
    pub entry : Entry T B
    pub at : lookup (nat_eq p) rows ≡ Some entry
    pub standing : Standing charge spell is_value limit (s.failure ≡ None) (IsGood reach honest limit first) (bytes (told disk)) p x entry

  pub there : (limit : ℕ) (s : Core) (rows : List (ℕ × Entry T B)) (disk : Home D) (first : D) (counters : Counters) (p : ℕ) (x : Pool)
      → Whole limit s rows disk first counters → pool_at s.pools p ≡ Some x → There limit s rows disk first p x
  there limit s rows disk first counters p x w at = by (lookup (nat_eq p) rows) refl
      (subst (λ o. Stands charge spell is_value limit (s.failure ≡ None) (IsGood reach honest limit first) (bytes (told disk)) p o (lookup (nat_eq p) rows)) at
      (w.stands p))
    where
      by : (o : Option (Entry T B)) → lookup (nat_eq p) rows ≡ o
          → Stands charge spell is_value limit (s.failure ≡ None) (IsGood reach honest limit first) (bytes (told disk)) p (Some x) (lookup (nat_eq p) rows)
          → There limit s rows disk first p x
      by None e h = absurd (subst (λ o. Stands charge spell is_value limit (s.failure ≡ None) (IsGood reach honest limit first) (bytes (told disk)) p (Some x)
          o) e h)
      by (Some v) e h = record {
        entry = v;
        at = e;
        standing = subst
            (λ o. Stands charge spell is_value limit (s.failure ≡ None) (IsGood reach honest limit first) (bytes (told disk)) p (Some x) o) e h;
      }

  -- what stands elsewhere
  stands_other : (limit : ℕ) (run run' trusted : Type 0) (old new : Option (List ℕ)) (q : ℕ) (o : Option Pool) (e : Option (Entry T B)) → (run' → run)
      → (trusted → (x : Pool) (r : List ℕ) → o ≡ Some x → x.c ≡ length r → is_filed x.stage ≡ true → HasBytes old (q * limit) r → HasBytes new (q * limit) r)
      → Stands charge spell is_value limit run trusted old q o e → Stands charge spell is_value limit run' trusted new q o e
  stands_other limit run run' trusted old new q None None back same h = h
  stands_other limit run run' trusted old new q None (Some e) back same h = h
  stands_other limit run run' trusted old new q (Some x) None back same h = h
  stands_other limit run run' trusted old new q (Some x) (Some e) back same h = record {
    below = h.below;
    value = h.value;
    charge_is = h.charge_is;
    length_is = h.length_is;
    lies = λ r. h.lies (back r);
    filed = λ r g f. same g x (spell e.value.value) refl h.length_is f (h.filed (back r) g f);
  }

  -- once a failure is kept, nothing is said of bodies and records
  stands_halted : (limit : ℕ) (run run' trusted : Type 0) (old new : Option (List ℕ)) (q : ℕ) (o : Option Pool) (e : Option (Entry T B)) → (run' → ⊥)
      → Stands charge spell is_value limit run trusted old q o e → Stands charge spell is_value limit run' trusted new q o e
  stands_halted limit run run' trusted old new q None None gone h = h
  stands_halted limit run run' trusted old new q None (Some e) gone h = h
  stands_halted limit run run' trusted old new q (Some x) None gone h = h
  stands_halted limit run run' trusted old new q (Some x) (Some e) gone h =
      record { below = h.below; value = h.value; charge_is = h.charge_is; length_is = h.length_is; lies = λ r. absurd (gone r); filed = λ r. absurd (gone r) }

  -- once a failure is kept, a disk may come home
  pub whole_halted : (limit : ℕ) (s : Core) (rows : List (ℕ × Entry T B)) (disk disk' : Home D) (first : D) (counters : Counters)
      → Whole limit s rows disk first counters → is_some s.failure ≡ true → (IsGood reach honest limit first → IsGood reach honest limit (told disk'))
      → Whole limit s rows disk' first counters
  whole_halted limit s rows disk disk' first counters w kept good =
      let gone : s.failure ≡ None → ⊥ = λ n. no_some s.failure kept n in
      record {
        limit_is = w.limit_is;
        small = w.small;
        workers = w.workers;
        sound = w.sound;
        differ = w.differ;
        stands = λ q. stands_halted limit (s.failure ≡ None) (s.failure ≡ None) (IsGood reach honest limit first) (bytes (told disk)) (bytes (told disk')) q
            (pool_at s.pools q) (lookup (nat_eq q) rows) gone (w.stands q);
        home = λ n. absurd (gone n);
        good = good;
        peak = w.peak;
      }

  -- a failure leaves what is kept, and the disk
  pub fail_whole : (limit : ℕ) (s new : Core) (event : Event) (rows : List (ℕ × Entry T B)) (disk : Home D) (first : D) (before after : Counters)
      → Whole limit s rows disk first before → Stepped s event new before after → new.pools ≡ s.pools → is_some new.failure ≡ true
      → Whole limit new rows disk first after
  fail_whole limit s new event rows disk first before after w t pools kept =
      let gone : new.failure ≡ None → ⊥ = λ n. no_some new.failure kept n in
      record {
        limit_is = t.limit ∙ w.limit_is;
        small = w.small;
        workers = (let a = w.workers in let b = t.workers in omega arith);
        sound = t.sound;
        differ = w.differ;
        stands = λ q. subst (λ z. Stands charge spell is_value limit (new.failure ≡ None) (IsGood reach honest limit first) (bytes (told disk)) q (pool_at z q)
            (lookup (nat_eq q) rows)) (sym pools)
            (stands_halted limit (s.failure ≡ None) (new.failure ≡ None) (IsGood reach honest limit first) (bytes (told disk)) (bytes (told disk)) q
            (pool_at s.pools q) (lookup (nat_eq q) rows) gone (w.stands q));
        home = λ n. absurd (gone n);
        good = w.good;
        peak = peak_kept limit s new event before after w.limit_is w.peak t;
      }

  -- An event of the pool p, which now is y, with e kept of it.
  pub record Turns (limit : ℕ) (s new : Core) (p : ℕ) (y : Option Pool) (e : Option (Entry T B)) (d : Option ℕ) (event : Event)
      (rows rows' : List (ℕ × Entry T B)) (disk disk' : Home D) (first : D) (before after : Counters) : Type 0 where
    pub running : s.failure ≡ None
    pub turned : Turned s new p y d
    pub step : Stepped s event new before after
    pub differ : IsDistinct nat_eq (keys_of rows')
    pub found : (q : ℕ) → lookup (nat_eq q) rows' ≡ cond (nat_eq p q) e (lookup (nat_eq q) rows)
    pub here : Stands charge spell is_value limit (new.failure ≡ None) (IsGood reach honest limit first) (bytes (told disk')) p y e
    pub others : IsGood reach honest limit first → (q : ℕ) (x : Pool) (r : List ℕ) → nat_eq p q ≡ false → pool_at s.pools q ≡ Some x → x.c ≡ length r
        → is_filed x.stage ≡ true → HasBytes (bytes (told disk)) (q * limit) r → HasBytes (bytes (told disk')) (q * limit) r
    pub home : is_home disk' ≡ is_none d
    pub good : IsGood reach honest limit first → IsGood reach honest limit (told disk')

  stands_turned : (limit : ℕ) (s new : Core) (p : ℕ) (y : Option Pool) (e : Option (Entry T B)) (d : Option ℕ) (event : Event)
      (rows rows' : List (ℕ × Entry T B)) (disk disk' : Home D) (first : D) (before after : Counters)
      → Whole limit s rows disk first before → Turns limit s new p y e d event rows rows' disk disk' first before after → (q : ℕ) (b : Bool) → nat_eq p q ≡ b
      → Stands charge spell is_value limit (new.failure ≡ None) (IsGood reach honest limit first) (bytes (told disk')) q (pool_at new.pools q)
      (lookup (nat_eq q) rows')
  stands_turned limit s new p y e d event rows rows' disk disk' first before after w t q true eq =
      let o : pool_at new.pools q ≡ y = t.turned.found q ∙ ap (λ b. cond b y (pool_at s.pools q)) eq in
      let r : lookup (nat_eq q) rows' ≡ e = t.found q ∙ ap (λ b. cond b e (lookup (nat_eq q) rows)) eq in
      subst (λ z. Stands charge spell is_value limit (new.failure ≡ None) (IsGood reach honest limit first) (bytes (told disk')) q z (lookup (nat_eq q) rows'))
      (sym o)
      (subst (λ z. Stands charge spell is_value limit (new.failure ≡ None) (IsGood reach honest limit first) (bytes (told disk')) q y z) (sym r)
      (subst (λ k. Stands charge spell is_value limit (new.failure ≡ None) (IsGood reach honest limit first) (bytes (told disk')) k y e) (same_number p q eq)
      t.here))
  stands_turned limit s new p y e d event rows rows' disk disk' first before after w t q false eq =
      let o : pool_at new.pools q ≡ pool_at s.pools q = t.turned.found q ∙ ap (λ b. cond b y (pool_at s.pools q)) eq in
      let r : lookup (nat_eq q) rows' ≡ lookup (nat_eq q) rows = t.found q ∙ ap (λ b. cond b e (lookup (nat_eq q) rows)) eq in
      subst (λ z. Stands charge spell is_value limit (new.failure ≡ None) (IsGood reach honest limit first) (bytes (told disk')) q z (lookup (nat_eq q) rows'))
      (sym o)
      (subst (λ z. Stands charge spell is_value limit (new.failure ≡ None) (IsGood reach honest limit first) (bytes (told disk')) q (pool_at s.pools q) z)
      (sym r)
      (stands_other limit (s.failure ≡ None) (new.failure ≡ None) (IsGood reach honest limit first) (bytes (told disk)) (bytes (told disk')) q
      (pool_at s.pools q) (lookup (nat_eq q) rows) (λ n. t.running)
      (λ g x l at c f h. t.others g q x l eq at c f h) (w.stands q)))

  pub whole_turned : (limit : ℕ) (s new : Core) (p : ℕ) (y : Option Pool) (e : Option (Entry T B)) (d : Option ℕ) (event : Event)
      (rows rows' : List (ℕ × Entry T B)) (disk disk' : Home D) (first : D) (before after : Counters)
      → Whole limit s rows disk first before → Turns limit s new p y e d event rows rows' disk disk' first before after
      → Whole limit new rows' disk' first after
  whole_turned limit s new p y e d event rows rows' disk disk' first before after w t = record {
    limit_is = t.step.limit ∙ w.limit_is;
    small = w.small;
    workers = (let a = w.workers in let b = t.step.workers in omega arith);
    sound = t.step.sound;
    differ = t.differ;
    stands = λ q. stands_turned limit s new p y e d event rows rows' disk disk' first before after w t q (nat_eq p q) refl;
    home = λ n. t.home ∙ ap is_none (sym t.turned.disk_is);
    good = t.good;
    peak = peak_kept limit s new event before after w.limit_is w.peak t.step;
  }

  -- An event after which p has the same value, with another body or the same, and the disk tells what it told.
  pub record Moves (limit : ℕ) (s new : Core) (p : ℕ) (x y : Pool) (e : Entry T B) (body : Lying T) (d : Option ℕ) (event : Event)
      (rows rows' : List (ℕ × Entry T B)) (disk disk' : Home D) (before after : Counters) : Type 0 where
    pub running : s.failure ≡ None
    pub pool : pool_at s.pools p ≡ Some x
    pub entry : lookup (nat_eq p) rows ≡ Some e
    pub turned : Turned s new p (Some y) d
    pub step : Stepped s event new before after
    pub charge_same : y.e ≡ x.e
    pub length_same : y.c ≡ x.c
    pub differ : IsDistinct nat_eq (keys_of rows')
    pub found : (q : ℕ) → lookup (nat_eq q) rows' ≡ cond (nat_eq p q) (Some (record e { body = body })) (lookup (nat_eq q) rows)
    pub lies : LiesAs spell (p * limit) y.stage body e.value.value
    pub filed : is_filed y.stage ≡ true → is_filed x.stage ≡ true
    pub same : told disk' ≡ told disk
    pub home : is_home disk' ≡ is_none d

  pub whole_moved : (limit : ℕ) (s new : Core) (p : ℕ) (x y : Pool) (e : Entry T B) (body : Lying T) (d : Option ℕ) (event : Event)
      (rows rows' : List (ℕ × Entry T B)) (disk disk' : Home D) (first : D) (before after : Counters)
      → Whole limit s rows disk first before → Moves limit s new p x y e body d event rows rows' disk disk' before after
      → Whole limit new rows' disk' first after
  whole_moved limit s new p x y e body d event rows rows' disk disk' first before after w m =
      let t = there limit s rows disk first before p x w m.pool in
      let same : t.entry ≡ e = same_Some t.entry e (sym t.at ∙ m.entry) in
      let st : Standing charge spell is_value limit (s.failure ≡ None) (IsGood reach honest limit first) (bytes (told disk)) p x e = subst
      (Standing charge spell is_value limit (s.failure ≡ None) (IsGood reach honest limit first) (bytes (told disk)) p x) same t.standing in
      whole_turned limit s new p (Some y) (Some (record e { body = body })) d event rows rows' disk disk' first before after w (record {
        running = m.running;
        turned = m.turned;
        step = m.step;
        differ = m.differ;
        found = m.found;
        here = record {
          below = st.below;
          value = st.value;
          charge_is = m.charge_same ∙ st.charge_is;
          length_is = m.length_same ∙ st.length_is;
          lies = λ n. m.lies;
          filed = λ n g f. subst (λ z. HasBytes (bytes z) (p * limit) (spell e.value.value)) (sym m.same) (st.filed m.running g (m.filed f));
        };
        others = λ g q z r n at c f h. subst (λ v. HasBytes (bytes v) (q * limit) r) (sym m.same) h;
        home = m.home;
        good = λ g. subst (IsGood reach honest limit) (sym m.same) (w.good g);
      })

  -- where the body of p was taken out, it lay as the pool's stage says
  pub put_lies : (limit : ℕ) (s : Core) (rows rows' : List (ℕ × Entry T B)) (disk : Home D) (first : D) (counters : Counters) (p : ℕ) (x : Pool)
      (body was : Lying T) → Whole limit s rows disk first counters → s.failure ≡ None → pool_at s.pools p ≡ Some x
      → (put : Puts rows rows' p body was) → LiesAs spell (p * limit) x.stage was put.entry.value.value
  put_lies limit s rows rows' disk first counters p x body was w none at put =
      let th = there limit s rows disk first counters p x w at in
      let same : th.entry ≡ put.entry = same_Some th.entry put.entry (sym th.at ∙ put.at) in
      subst (λ z. LiesAs spell (p * limit) x.stage z put.entry.value.value) put.was_is
      (subst (λ z. LiesAs spell (p * limit) x.stage z.body z.value.value) same (th.standing.lies none))

  -- what is kept of p stays
  pub found_same : (rows : List (ℕ × Entry T B)) (p : ℕ) (e : Entry T B) → lookup (nat_eq p) rows ≡ Some e → (q : ℕ)
      → lookup (nat_eq q) rows ≡ cond (nat_eq p q) (Some e) (lookup (nat_eq q) rows)
  found_same rows p e at q = by (nat_eq p q) refl
    where
      by : (b : Bool) → nat_eq p q ≡ b → lookup (nat_eq q) rows ≡ cond b (Some e) (lookup (nat_eq q) rows)
      by true eq = ap (λ z. lookup (nat_eq z) rows) (sym (same_number p q eq)) ∙ at
      by false eq = refl
