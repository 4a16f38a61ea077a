-- A new pool, and a failure.
use Rattle.std.proofs.Common.{◌≡◌, ℕ, ◌+◌, ◌*◌, ◌<◌, ◌≤◌, ◌^◌, Bool, true, false, cond, nat_eq, List, [], ◌∷◌, length, Option, Some, None, IsSome}
use Rattle.std.proofs.Common.{Result, Ok, Err, refl, sym, ap, subst, arith, ◌∙◌, ◌⊎◌, inl, inr}
use Rattle.std.specs.Prelude.{is_some, MatchResult, option_map, ◌&&◌, ◌||◌, nat_lt, nat_le, not}
use Rattle.std.specs.Cmp.{nat_eq_equiv}
use Rattle.std.specs.Option.{option_map_or}
use Rattle.std.specs.Map.{keys_of, lookup}
use Rattle.std.proofs.lemmas.Map.Made.{is_some-lookup}
use Rattle.std.proofs.lemmas.Map.Steps.{length-le_from_keys}
use Rattle.std.proofs.lemmas.Bool.Decides.{nat_tests}
use Rattle.std.proofs.lemmas.List.{length-map}
use Rattle.naim_core.specs.Charges.{under_sum}
use Rattle.naim_core.specs.Rows
use Rattle.naim_core.specs.Sound.{IsSound, RecordsApart}
use Rattle.naim_core.specs.State.{Core, pool_at}
use Rattle.naim_core.specs.Steps.{Follows, permit, then_state, step_of, failed}
use Rattle.naim_core.specs.declared.event.Event.TheVariants as event
use Rattle.naim_core.specs.declared.event.Failure.{Failure}
use Rattle.naim_core.specs.declared.event.Form.{Form}
use Rattle.naim_core.specs.declared.event.Form.TheVariants as form
use Rattle.naim_core.specs.declared.event.Refusal.{Refusal}
use Rattle.naim_core.specs.declared.event.Refusal.TheVariants.{Stopped, Present, Full, BadSize, TooSmall, NeedsRoom}
use Rattle.naim_core.specs.declared.pool.Pool.{Pool}
use Rattle.naim_core.specs.declared.event.Event.{Event}
use Rattle.naim_core.proofs.Effects.{Turned, insert_did, running}
use Rattle.naim_loader.specs.declared.counters.Counters.{Counters}
use Rattle.naim_loader.specs.declared.home.Home.{Home}
use Rattle.naim_loader.specs.declared.table.Entry.{Entry}
use Rattle.naim_loader.specs.declared.table.Lying.{Lying}
use Rattle.naim_loader.specs.Counting.{counted, Stepped}
use Rattle.naim_loader.specs.Forms.{LiesIn, LiesAs, is_filed}
use Rattle.naim_loader.specs.Home.{told}
use Rattle.naim_loader.specs.Paged.{IsGood}
use Rattle.naim_loader.specs.Rows.{Renews, kept_in, kept_of}
use Rattle.naim_loader.specs.Whole.{Stands, IsWhole}
use Rattle.naim_loader.proofs.Views.{kept_lookup}
use Rattle.naim_loader.proofs.Wholes.{whole_turned}

-- where nothing is kept, there is no entry
pub row_absent : {T B : Type 0} (rows : List (ℕ × Entry T B)) (p : ℕ) → lookup (nat_eq p) (kept_in rows) ≡ None → lookup (nat_eq p) rows ≡ None
row_absent {T} {B} rows p e = by (lookup (nat_eq p) rows) (sym (kept_lookup rows p) ∙ e)
  where
    by : (o : Option (Entry T B)) → option_map kept_of o ≡ None → o ≡ None
    by None h = refl
    by (Some x) h = cc

fit_refused : (a b : Bool) (c n : ℕ) (x : Pool) (g : Pool → Core) (r : Refusal) → then_state (permit ((a, TooSmall c) ∷ (b, NeedsRoom n) ∷ []) x) g ≡ Err r
    → (r ≡ TooSmall c) ⊎ (r ≡ NeedsRoom n)
fit_refused true b c n x g r e = inl cc
fit_refused false true c n x g r e = inr cc
fit_refused false false c n x g r e = cc

behind : (a b d : Bool) (rest : Rows.Row) (x : Pool) (g : Pool → Core) (r : Refusal) → a ≡ false → b ≡ false → d ≡ false
    → then_state (permit ((a, Present) ∷ (b, Full) ∷ (d, BadSize) ∷ rest) x) g ≡ Err r → then_state (permit rest x) g ≡ Err r
behind true b d rest x g r e f k h = cc
behind false true d rest x g r e f k h = cc
behind false false true rest x g r e f k h = cc
behind false false false rest x g r e f k h = h

not_full : (n : ℕ) → n < 4096 → nat_le 4096 n ≡ false
not_full n h = grind (arith, nat_tests)

not_less : (m n : ℕ) → n ≤ m → nat_lt m n ≡ false
not_less m n h = grind (arith, nat_tests)

no_either : (a b : Bool) → a ≡ false → b ≡ false → (a || b) ≡ false
no_either true b e f = cc
no_either false b e f = f

-- a new pool is refused only for want of room
pub insert_refused : (s : Core) (p : ℕ) (f : Form) (e c : ℕ) (r : Refusal) → s.failure ≡ None → pool_at s.pools p ≡ None → length s.pools < 4096 → c ≤ e
    → e ≤ 2 ^ 40 → step_of s (event.Insert p f e c) ≡ Err r
    → (r ≡ TooSmall c) ⊎ (r ≡ NeedsRoom (Rows.bytes_of f e c))
insert_refused s p f e c r none absent room short charge h =
    let h' = sym (running s (event.Insert p f e c) none) ∙ h in
    fit_refused (Rows.is_compact_form f && nat_lt s.limit c) (nat_lt s.limit (under_sum s.pools + Rows.bytes_of f e c)) c (Rows.bytes_of f e c)
    (Rows.inserted f e c) (λ x. record s { pools = (p, x) ∷ s.pools }) r
    (behind (is_some (pool_at s.pools p)) (nat_le 4096 (length s.pools)) (nat_lt e c || nat_lt (2 ^ 40) e) (Rows.fit_row s.limit (under_sum s.pools) f e c)
    (Rows.inserted f e c) (λ x. record s { pools = (p, x) ∷ s.pools }) r
    (ap is_some absent) (not_full (length s.pools) room) (no_either (nat_lt e c) (nat_lt (2 ^ 40) e) (not_less e c short) (not_less (2 ^ 40) e charge)) h')

-- a failure is always taken
pub fail_ok : (s : Core) (w : ℕ) (f : Failure) → step_of s (event.Fail w f) ≡ Ok (failed s f)
fail_ok s w f = by (is_some s.failure)
  where
    by : (b : Bool) → (cond (b && not true) (Err Stopped) (Ok (failed s f))) ≡ Ok (failed s f)
    by true = refl
    by false = refl

pub failed_is : (s new : Core) (w : ℕ) (f : Failure) (r : Result (Unit {0}) Refusal) → Follows (step_of s (event.Fail w f)) s r new → new ≡ failed s f
failed_is s new w f r h = (let k = rw (fail_ok s w f) at h in k.1)

-- the failure was told and counted
pub fail_stepped : (s new : Core) (w : ℕ) (f : Failure) (before after : Counters) (r : Result (Unit {0}) Refusal) → Follows (step_of s (event.Fail w f)) s r new
    → IsSound new → RecordsApart new → new.limit ≡ s.limit → length new.hands ≡ length s.hands
    → MatchResult r (λ _. after ≡ counted (event.Fail w f) before new) (λ _. after ≡ before) → Stepped s (event.Fail w f) new before after
fail_stepped s new w f before after r h sound apart limit workers counts =
    let k = rw (fail_ok s w f) at h in
    record {
      step = fail_ok s w f ∙ ap (λ z. Ok z) (sym k.1);
      sound = sound;
      apart = apart;
      limit = limit;
      workers = workers;
      counts = subst
          (λ z. MatchResult z (λ _. after ≡ counted (event.Fail w f) before new) (λ _. after ≡ before)) k.0 counts;
    }

-- a failure is kept then
pub still_failed : (s new : Core) (f : Failure) → new ≡ failed s f → is_some new.failure ≡ true
still_failed s new f is = ap (λ z. is_some z.failure) is ∙ by s.failure
  where
    by : (o : Option Failure) → is_some (option_map_or (λ kept. Some kept) o (Some f)) ≡ true
    by None = refl
    by (Some g) = refl

free_lies : {T : Type 0} (spell : T → List ℕ) (place : ℕ) (f : Form) (b : Lying T) (r : T) → LiesIn spell f b r → LiesAs spell place (Rows.free_in f) b r
free_lies spell place form.Expanded b r l = l
free_lies spell place form.Compacted b r l = l

free_unfiled : (f : Form) → is_filed (Rows.free_in f) ≡ true → ⊥
free_unfiled form.Expanded e = cc
free_unfiled form.Compacted e = cc

module _ {T B D : Type 0} (charge : T → ℕ) (spell : T → List ℕ) (is_value : T → Type 0) (bytes : D → Option (List ℕ)) (reach : D → ℕ) (honest : D → Bool) where
  abbrev Whole : ℕ → Core → List (ℕ × Entry T B) → Home D → D → Counters → Type 0
  Whole = IsWhole charge spell is_value bytes reach honest

  -- as many entries as pools, and a pool where there is an entry
  pool_there : (limit : ℕ) (s : Core) (rows : List (ℕ × Entry T B)) (disk : Home D) (first : D) (counters : Counters) (p : ℕ)
      → Whole limit s rows disk first counters → IsSome (lookup (nat_eq p) rows) → IsSome (pool_at s.pools p)
  pool_there limit s rows disk first counters p w h = by (pool_at s.pools p) (lookup (nat_eq p) rows) (w.stands p) h
    where
      by : (o : Option Pool) (e : Option (Entry T B))
          → Stands charge spell is_value limit (s.failure ≡ None) (IsGood reach honest limit first) (bytes (told disk)) p o e → IsSome e → IsSome o
      by None None k i = i
      by None (Some e) k i = absurd k
      by (Some x) e k i = refl

  pub no_pool : (limit : ℕ) (s : Core) (rows : List (ℕ × Entry T B)) (disk : Home D) (first : D) (counters : Counters) (p : ℕ)
      → Whole limit s rows disk first counters → lookup (nat_eq p) rows ≡ None → pool_at s.pools p ≡ None
  no_pool limit s rows disk first counters p w h = by (pool_at s.pools p) (lookup (nat_eq p) rows) (w.stands p) h
    where
      by : (o : Option Pool) (e : Option (Entry T B))
          → Stands charge spell is_value limit (s.failure ≡ None) (IsGood reach honest limit first) (bytes (told disk)) p o e → e ≡ None → o ≡ None
      by None e k i = refl
      by (Some x) None k i = absurd k
      by (Some x) (Some e) k i = cc

  pub few_rows : (limit : ℕ) (s : Core) (rows : List (ℕ × Entry T B)) (disk : Home D) (first : D) (counters : Counters) → Whole limit s rows disk first counters
      → length rows ≤ length s.pools
  few_rows limit s rows disk first counters w =
      let k = length-le_from_keys nat_eq_equiv (keys_of rows) s.pools w.differ
      (λ t i. pool_there limit s rows disk first counters t w (is_some-lookup (nat_eq t) rows ∙ i)) in
      let m : length (keys_of rows) ≡ length rows = length-map rows (λ r. r.0) in omega arith

  -- a pool comes in, or has a new value: it is free in the form
  pub placed_whole : (limit p : ℕ) (s new : Core) (event : Event) (rows rows' : List (ℕ × Entry T B)) (disk : Home D) (first : D) (before after : Counters)
      (f : Form) (e c : ℕ) (x : Entry T B) → Whole limit s rows disk first before → s.failure ≡ None
      → Turned s new p (Some (Rows.inserted f e c)) s.disk → Stepped s event new before after → Renews rows rows' p (Some x) → p < 131072
      → is_value x.value.value → e ≡ charge x.value.value → c ≡ length (spell x.value.value) → LiesIn spell f x.body x.value.value
      → Whole limit new rows' disk first after
  placed_whole limit p s new event rows rows' disk first before after f e c x w none turned t put below value charge_is length_is lies =
      whole_turned charge spell is_value bytes reach honest limit s new p (Some (Rows.inserted f e c)) (Some x) s.disk event rows rows' disk disk first before
      after w (record {
        running = none;
        turned = turned;
        step = t;
        differ = put.differ;
        found = put.found;
        here = record {
          below = below;
          value = value;
          charge_is = charge_is;
          length_is = length_is;
          lies = λ n. free_lies spell (p * limit) f x.body x.value.value lies;
          filed = λ n g k. absurd (free_unfiled f k);
        };
        others = λ g q z r n at k i h. h;
        home = w.home none;
        good = w.good;
      })

  pub insert_whole : (limit p : ℕ) (s new : Core) (rows rows' : List (ℕ × Entry T B)) (disk : Home D) (first : D) (before after : Counters) (f : Form) (e c : ℕ)
      (x : Entry T B) → Whole limit s rows disk first before → s.failure ≡ None
      → Stepped s (event.Insert p f e c) new before after → Renews rows rows' p (Some x) → p < 131072 → is_value x.value.value → e ≡ charge x.value.value
      → c ≡ length (spell x.value.value) → LiesIn spell f x.body x.value.value
      → Whole limit new rows' disk first after
  insert_whole limit p s new rows rows' disk first before after f e c x w none t put =
      placed_whole limit p s new (event.Insert p f e c) rows rows' disk first before after f e c x w none (insert_did s new p f e c none t.step) t put
