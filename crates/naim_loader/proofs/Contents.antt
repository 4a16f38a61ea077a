-- What stands for the contents, and what a disk that comes back at the end has of them.
use Rattle.std.proofs.Common.{◌≡◌, ℕ, zero, suc, ◌+◌, ◌*◌, ◌^◌, ◌<◌, ◌≤◌, Bool, true, false, cond, nat_eq, List, [], ◌∷◌, length, sum_by, true≢false}
use Rattle.std.proofs.Common.{Option, Some, None, IsSome, refl, sym, ap, subst, arith, ◌∙◌}
use Rattle.std.specs.Prelude.{IsTrue, is_none, option_map, slice_index, ◌&&◌, if◌then◌else◌}
use Rattle.std.specs.Cmp.{nat_eq_equiv}
use Rattle.std.specs.List.{IsDistinct, list_all}
use Rattle.std.specs.Map.{keys_of, values_of, lookup, remove_entry}
use Rattle.std.proofs.lemmas.List.{get_or_past}
use Rattle.std.proofs.lemmas.List.Sums.{sum_by-cons}
use Rattle.std.proofs.lemmas.Map.Keys.{IsDistinct-tail}
use Rattle.std.proofs.lemmas.Map.Made.{keys_of-map_values, lookup-map_values}
use Rattle.list_laws.proofs.Tests.{or_yes}
use Rattle.list_laws.proofs.Entries.{distinct_removed, head_absent, lookup_removed, number_itself, same_number, sum_removed}
use Rattle.repository.specs.Record.{HasBytes}
use Rattle.naim_core.specs.Charges.{under_part, under_sum}
use Rattle.naim_core.specs.Sound.{IsFitStage, hands_with, movers, read_pins, wanted_by, write_pins}
use Rattle.naim_core.specs.State.{Core, pool_at, is_empty_hand, holds}
use Rattle.naim_core.specs.declared.pool.Pool.{Pool}
use Rattle.naim_core.specs.declared.pool.Stage.{Stage}
use Rattle.naim_core.specs.declared.pool.Stage.TheVariants as stage
use Rattle.naim_core.specs.declared.state.Hand.{Hand}
use Rattle.naim_core.proofs.Keeps.{one}
use Rattle.naim_loader.specs.declared.counters.Counters.{Counters}
use Rattle.naim_loader.specs.declared.home.Home.{Home}
use Rattle.naim_loader.specs.declared.table.Entry.{Entry}
use Rattle.naim_loader.specs.Contents.{HasPool, StandsAt, StandsFor}
use Rattle.naim_loader.specs.Forms.{is_filed}
use Rattle.naim_loader.specs.Home.{told, is_home}
use Rattle.naim_loader.specs.Paged.{Paged, content_at, contents, IsGood, IsTrusted}
use Rattle.naim_loader.specs.Parts.{begins_with, is_part, is_told_part, untold_len}
use Rattle.naim_loader.specs.Rows.{kept_in, kept_of}
use Rattle.naim_loader.specs.Trails.{Lists}
use Rattle.naim_loader.specs.Whole.{Stands, IsWhole}
use Rattle.naim_loader.proofs.Views.{kept_lookup}

-- a look-up in the contents as a list
pub contents_at : {T B D : Type 0} (l : Paged T B D) (p : ℕ) → lookup (nat_eq p) (contents l) ≡ content_at l p
contents_at l p = lookup-map_values (λ k. k.value) (nat_eq p) l.kept

module _ {X Y : Type 0} where
  -- Of entries that each have an entry of the same key that counts no less, the sum is no more.
  pub sum_within : (f : X → ℕ) (g : Y → ℕ) (xs : List (ℕ × X)) (ys : List (ℕ × Y)) → IsDistinct nat_eq (keys_of xs) → IsDistinct nat_eq (keys_of ys)
      → ((p : ℕ) (x : X) → lookup (nat_eq p) xs ≡ Some x → (y : Y) × (lookup (nat_eq p) ys ≡ Some y) × (f x ≤ g y))
      → sum_by f (values_of xs) ≤ sum_by g (values_of ys)
  sum_within f g [] ys dx dy h = omega arith
  sum_within f g (r ∷ xs) ys dx dy h =
      let first : lookup (nat_eq r.0) (r ∷ xs) ≡ Some r.1 = rw (number_itself r.0) refl in
      let here = h r.0 r.1 first in let y = here.0 in let at = here.1 in let low = here.2 in
      let left = remove_entry (nat_eq r.0) ys in
      let rest : sum_by f (values_of xs) ≤ sum_by g (values_of left) =
      sum_within f g xs left (IsDistinct-tail nat_eq r.0 (keys_of xs) dx) (distinct_removed r.0 ys dy) (λ p x e. others p x e (nat_eq r.0 p) refl) in
      let total : sum_by f (values_of (r ∷ xs)) ≡ f r.1 + sum_by f (values_of xs) = sum_by-cons f r.1 (values_of xs) in
      let gone : sum_by g (values_of left) + g y ≡ sum_by g (values_of ys) = sum_removed g r.0 y ys at in
      omega arith
    where
      others : (p : ℕ) (x : X) → lookup (nat_eq p) xs ≡ Some x → (b : Bool) → nat_eq r.0 p ≡ b
          → (y : Y) × (lookup (nat_eq p) (remove_entry (nat_eq r.0) ys) ≡ Some y) × (f x ≤ g y)
      others p x e true t =
          let none : lookup (nat_eq p) xs ≡ None = ap (λ z. lookup (nat_eq z) xs) (sym (same_number r.0 p t)) ∙ head_absent r.0 xs dx in
          let no : Some x ≡ None = sym e ∙ none in absurd cc
      others p x e false t =
          let swap : nat_eq p r.0 ≡ false = nat_eq_equiv.symm p r.0 ∙ t in
          let here : lookup (nat_eq p) (r ∷ xs) ≡ Some x = rw swap e in
          let k = h p x here in
          (k.0, lookup_removed r.0 p ys dy ∙ ap (λ b. cond b None (lookup (nat_eq p) ys)) t ∙ k.1, k.2)

begins : (x b : List ℕ) → ((k : ℕ) → k < length x → slice_index x k ≡ slice_index b k) → begins_with x b ≡ true
begins [] b h = refl
begins (a ∷ x) [] h =
    let first : a ≡ 0 = h 0 (omega arith) in
    let rest : begins_with x [] ≡ true = begins x [] (λ k low. h (suc k) (omega arith) ∙ sym (get_or_past [] k 0 (omega arith))) in
    rw (first, rest) refl
begins (a ∷ x) (c ∷ b) h =
    let first : a ≡ c = h 0 (omega arith) in
    let rest : begins_with x b ≡ true = begins x b (λ k low. h (suc k) (omega arith)) in
    let same : nat_eq a c ≡ true = ap (λ z. nat_eq z c) first ∙ number_itself c in
    rw (same, rest) refl

-- bytes that stand at some place are a part
part_at : (x b : List ℕ) (place : ℕ) → ((k : ℕ) → k < length x → slice_index x k ≡ slice_index b (place + k)) → is_part x b ≡ true
part_at x [] place h = begins x [] (λ k low. h k low ∙ get_or_past [] (place + k) 0 (omega arith) ∙ sym (get_or_past [] k 0 (omega arith)))
part_at x (c ∷ b) zero h =
    let e : begins_with x (c ∷ b) ≡ true = begins x (c ∷ b) (λ k low. h k low ∙ ap (slice_index (c ∷ b)) (let z : 0 + k ≡ k = omega arith in z)) in
    rw e refl
part_at x (c ∷ b) (suc place) h =
    let e : is_part x b ≡ true = part_at x b place (λ k low. h k low ∙ ap (slice_index (c ∷ b)) (let z : suc place + k ≡ suc (place + k) = omega arith in z)) in
    rw e (or_yes (begins_with x (c ∷ b)))

told_part : (told : Option (List ℕ)) (place : ℕ) (x : List ℕ) → IsSome told → HasBytes told place x → is_told_part told x ≡ true
told_part None place x some h = some
told_part (Some b) place x some h = part_at x b place h

-- empty hands hold nothing
none_hold : (place : Hand → Option ℕ) → ((h : Hand) → is_empty_hand h ≡ true → place h ≡ None) → (hands : List Hand) (p : ℕ)
    → list_all is_empty_hand hands ≡ true → hands_with place hands p ≡ 0
none_hold place empty [] p e = refl
none_hold place empty (h ∷ hands) p e = (elim (is_empty_hand h)
    as (λ b. is_empty_hand h ≡ b → (b && list_all is_empty_hand hands) ≡ true → hands_with place (h ∷ hands) p ≡ 0) [
      | true ↦ λ t k. let c = sum_by-cons (λ l. one (holds (place l) p)) h hands in let n : one (holds (place h) p) ≡ 0 = ap (λ o. one (holds o p)) (empty h t)
          in let r = none_hold place empty hands p k in omega arith
      | false ↦ λ t k. absurd (true≢false (sym k))
    ]) refl e

empty_places : (h : Hand) → is_empty_hand h ≡ true → (h.read ≡ None) × (h.written ≡ None) × (h.moved ≡ None)
empty_places h e = parts h.task h.written h.read h.moved e
  where
    parts : (t wr r m : Option ℕ) → (is_none t && is_none wr && is_none r && is_none m) ≡ true → (r ≡ None) × (wr ≡ None) × (m ≡ None)
    parts None None None None k = (refl, refl, refl)
    parts None None None (Some m) k = absurd (true≢false (sym k))
    parts None None (Some r) m k = absurd (true≢false (sym k))
    parts None (Some wr) r m k = absurd (true≢false (sym k))
    parts (Some t) wr r m k = absurd (true≢false (sym k))

-- what a pool that nobody holds counts at the end: at most what it counts against the limit
settled : (b : Bool) (st : Stage) (e c n : ℕ) → read_pins st ≡ 0 → write_pins st ≡ 0 → movers st ≡ 0 → IsFitStage st → c ≤ e → c ≡ n
    → (is_filed st ≡ true → b ≡ true)
    → (if b then 0 else n) ≤ under_part (record { stage = st; e = e; c = c })
settled true st e c n r w m f low same filed = omega arith
settled false stage.Free e c n r w m f low same filed = omega arith
settled false (stage.Read readers) e c n r w m f low same filed = (let k : 0 < readers = f in let z : readers ≡ 0 = r in omega arith)
settled false (stage.Written room) e c n r w m f low same filed = (let z : 1 ≡ 0 = w in omega arith)
settled false stage.Compacted e c n r w m f low same filed = omega arith
settled false stage.Offloaded e c n r w m f low same filed = absurd (true≢false (sym (filed refl)))
settled false stage.Compacting e c n r w m f low same filed = (let z : 1 ≡ 0 = m in omega arith)
settled false stage.Offloading e c n r w m f low same filed = (let z : 1 ≡ 0 = m in omega arith)
settled false (stage.Reloading o d) e c n r w m f low same filed = (let z : 1 ≡ 0 = m in omega arith)

module _ {T B D : Type 0} (charge : T → ℕ) (spell : T → List ℕ) (is_value : T → Type 0) (bytes : D → Option (List ℕ)) (reach : D → ℕ) (honest : D → Bool) where
  abbrev Good : Paged T B D → Type 0
  Good = StandsFor charge spell is_value bytes reach honest

  -- a value of the contents, with its pool
  pub record Found (l : Paged T B D) (p : ℕ) (r : T) : Type 0 where
    pub pool : Pool
    pub at : pool_at l.core.pools p ≡ Some pool
    pub stands : StandsAt charge spell is_value bytes reach honest l p pool r

  pub found : (l : Paged T B D) (p : ℕ) (r : T) → Good l → content_at l p ≡ Some r → Found l p r
  found l p r g e = by (pool_at l.core.pools p) refl (subst (HasPool charge spell is_value bytes reach honest l p (pool_at l.core.pools p)) e (g.pools p))
    where
      by : (o : Option Pool) → pool_at l.core.pools p ≡ o → HasPool charge spell is_value bytes reach honest l p o (Some r) → Found l p r
      by None at h = absurd h
      by (Some x) at h = record { pool = x; at = at; stands = h }

  -- at the end, what a trusted disk doesn't have fits in the limit
  pub rest_within : (l : Paged T B D) → Good l → ((d : D) → IsTrue (honest d) → IsSome (bytes d)) → list_all is_empty_hand l.core.hands ≡ true
      → l.core.failure ≡ None → IsTrusted reach honest l
      → untold_len spell (bytes l.disk) (contents l) ≤ l.core.limit
  rest_within l g tells idle none trusted =
      let s = g.sound in
      let some : IsSome (bytes l.disk) = tells l.disk (g.good trusted).0 in
      let sum = sum_within (λ r. if is_told_part (bytes l.disk) (spell r) then 0 else length (spell r)) under_part (contents l) l.core.pools g.differ s.one_pool
      (λ p r e. each some p r (sym (contents_at l p) ∙ e)) in
      let fits : under_sum l.core.pools ≤ l.core.limit = s.under_fits in
      omega arith
    where
      each : IsSome (bytes l.disk) → (p : ℕ) (r : T) → content_at l p ≡ Some r
          → (x : Pool) × (pool_at l.core.pools p ≡ Some x) × ((if is_told_part (bytes l.disk) (spell r) then 0 else length (spell r)) ≤ under_part x)
      each some p r e =
          let f = found l p r g e in let x = f.pool in let s = g.sound in
          let fit = s.forms_fit p x f.at in
          let readers : read_pins x.stage ≡ 0 = ap (wanted_by read_pins) (sym f.at) ∙ sym (s.readers p) ∙ none_hold (λ h. h.read) (λ h k. (empty_places h k).0)
          l.core.hands p idle in
          let writers : write_pins x.stage ≡ 0 = ap (wanted_by write_pins) (sym f.at) ∙ sym (s.writers p) ∙ none_hold (λ h. h.written)
          (λ h k. (empty_places h k).1) l.core.hands p idle in
          let moving : movers x.stage ≡ 0 = ap (wanted_by movers) (sym f.at) ∙ sym (s.one_mover p) ∙ none_hold (λ h. h.moved) (λ h k. (empty_places h k).2)
          l.core.hands p idle in (
            x,
            f.at,
            settled (is_told_part (bytes l.disk) (spell r)) x.stage x.e x.c (length (spell r)) readers writers moving fit.stage_fits fit.shorter
                f.stands.length_is
                (λ k. told_part (bytes l.disk) (p * l.core.limit) (spell r) some (f.stands.filed none trusted k)),
          )

  -- the loader stands for its contents
  pub whole_stands : (limit : ℕ) (core : Core) (rows : List (ℕ × Entry T B)) (disk : Home D) (first : D) (counters : Counters) (lists : Lists T)
      → IsWhole charge spell is_value bytes reach honest limit core rows disk first counters
      → Good (record { core = core; kept = kept_in rows; disk = told disk; home = is_home disk; first = first; counters = counters; trail = lists })
  whole_stands limit core rows disk first counters lists w = record {
    small = subst (λ n. n ≤ 2 ^ 30) (sym w.limit_is) w.small;
    sound = w.sound;
    differ = subst (IsDistinct nat_eq) (sym (keys_of-map_values (λ k. k.value) (kept_in rows) ∙ keys_of-map_values kept_of rows)) w.differ;
    pools = λ p. subst (HasPool charge spell is_value bytes reach honest l p (pool_at core.pools p)) (sym (ap (option_map (λ k. k.value)) (kept_lookup rows p)))
        (by p (pool_at core.pools p) (lookup (nat_eq p) rows) (w.stands p));
    home = w.home;
    good = subst (λ n. IsGood reach honest n first → IsGood reach honest n (told disk)) (sym w.limit_is) w.good;
    peak = subst (λ n. counters.under_peak ≤ n) (sym w.limit_is) w.peak;
  }
    where
      l : Paged T B D
      l = record { core = core; kept = kept_in rows; disk = told disk; home = is_home disk; first = first; counters = counters; trail = lists }

      by : (p : ℕ) (o : Option Pool) (e : Option (Entry T B))
          → Stands charge spell is_value limit (core.failure ≡ None) (IsGood reach honest limit first) (bytes (told disk)) p o e
          → HasPool charge spell is_value bytes reach honest l p o (option_map (λ k. k.value) (option_map kept_of e))
      by p None None h = h
      by p None (Some e) h = h
      by p (Some x) None h = h
      by p (Some x) (Some e) h = record {
        below = h.below;
        value = h.value;
        charge_is = h.charge_is;
        length_is = h.length_is;
        filed = subst (λ n. core.failure ≡ None → IsGood reach honest n first → is_filed x.stage ≡ true
            → HasBytes (bytes (told disk)) (p * n) (spell e.value.value)) (sym w.limit_is) h.filed;
      }

  pub ended_good : (old v : Paged T B D) (d : D) → v ≡ old → Good v → d ≡ v.disk → IsTrusted reach honest old → IsGood reach honest old.core.limit d
  ended_good old v d e g is = subst (λ z. IsTrusted reach honest z → IsGood reach honest z.core.limit d) e
      (λ t. subst (IsGood reach honest v.core.limit) (sym is) (g.good t))

  pub ended_rest : (old v : Paged T B D) → v ≡ old → Good v → ((d : D) → IsTrue (honest d) → IsSome (bytes d)) → list_all is_empty_hand old.core.hands ≡ true
      → old.core.failure ≡ None → IsTrusted reach honest old
      → untold_len spell (bytes old.disk) (contents old) ≤ old.core.limit
  ended_rest old v e g tells = rest_within old (subst Good e g) tells
