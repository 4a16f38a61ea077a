-- How the tasks are cut, through a claim and through a wave.
use Rattle.std.proofs.Common.{◌≡◌, ℕ, ◌+◌, ◌<◌, ◌≤◌, Bool, true, false, not, nat_eq, List, [], ◌∷◌, drop, length}
use Rattle.std.proofs.Common.{length-drop, get_or, Option, Some, None, Ok, Err, refl, sym, ap, subst, arith, ◌∙◌, drop-cons, add-one}
use Rattle.std.proofs.Common.{true≢false}
use Rattle.std.specs.Prelude.{count_by, is_some, is_none, ◌&&◌, ◌||◌, if◌then◌else◌}
use Rattle.std.specs.Cmp.{nat_eq_equiv}
use Rattle.std.specs.List.{slice_get, slice_set, list_any, list_all}
use Rattle.std.proofs.lemmas.List.{length-set}
use Rattle.std.proofs.lemmas.List.Sums.{sum_by-cons}
use Rattle.std.proofs.lemmas.Map.Made.{length-le_from_is_member}
use Rattle.std.proofs.lemmas.Map.Steps.{length-le_from_keys}
use Rattle.naim_core.specs.Rows
use Rattle.naim_core.specs.Sound.{hands_with, IsSound}
use Rattle.naim_core.specs.State.{Core, IsKept, pool_at, hand_at, holds, is_in, is_empty_hand, has_repeat}
use Rattle.naim_core.specs.Steps.{Follows, claim_step, end_wave_step}
use Rattle.naim_core.specs.declared.event.Refusal.TheVariants.{InUse}
use Rattle.naim_core.specs.declared.pool.Pool.{Pool}
use Rattle.naim_core.specs.declared.state.Hand.{Hand}
use Rattle.naim_core.proofs.Keeps.{one, count_set}
use Rattle.list_laws.proofs.Entries.{other_number, same_number}
use Rattle.naim_core.proofs.Waves.{distinct_of, all_present, empty_parts}

pub kept_pools : (s : Core) (next room : ℕ) (pools : List (ℕ × Pool)) → IsKept s next room → IsKept (record s { pools = pools }) next room
kept_pools s next room pools k = record {
  small_limit = k.small_limit;
  some_worker = k.some_worker;
  few_workers = k.few_workers;
  cut = k.cut;
  room_fits =
      k.room_fits;
  counted = k.counted;
}

-- the next task and those behind it
pub next_of : (tasks : List ℕ) (n t d : ℕ) → n < length tasks → t ≡ get_or tasks n d → drop n tasks ≡ t ∷ drop (n + 1) tasks
next_of tasks n t d below is = rw (add-one, is) (drop-cons tasks n d below)

pub kept_claim : (s : Core) (n room w t : ℕ) (h : Hand) → IsKept s n room → s.unclaimed ≡ drop n s.tasks → n < length s.tasks → slice_get s.hands w ≡ Some h
    → h.task ≡ None →
    IsKept (record s { hands = slice_set s.hands w (record h { task = Some t }); unclaimed = drop (n + 1) s.tasks }) (n + 1) room
kept_claim s n room w t h k cut below at none = let g : Hand = record h { task = Some t } in record {
  small_limit = k.small_limit;
  some_worker = (let l = length-set s.hands w g in let z = k.some_worker in omega arith);
  few_workers = (let l = length-set s.hands w g in let z = k.few_workers in omega arith);
  cut = omega arith;
  room_fits = k.room_fits;
  counted = (let c = count_set (λ l. is_some l.task) s.hands w h g at in let a : one (is_some h.task) ≡ 0 = ap (λ o. one (is_some o)) none in let b : one
      (is_some g.task) ≡ 1 = refl in
      let d = length-drop n s.tasks in let e = length-drop (n + 1) s.tasks in let f = ap length cut in let z = k.counted in omega arith);
}

pub claim_follows : (s now : Core) (w t n : ℕ) (h : Hand) (new : Core) → s ≡ now → hand_at s.hands w ≡ h → h.task ≡ None
    → s.unclaimed ≡ t ∷ drop (n + 1) s.tasks →
    new ≡ record s { hands = slice_set s.hands w (record h { task = Some t }); unclaimed = drop (n + 1) s.tasks } → Follows (claim_step now w) now (Ok tt) new
claim_follows s now w t n h new view hand none next is =
    let some_left : nat_eq (length (t ∷ drop (n + 1) s.tasks)) 0 ≡ false = other_number (length (t ∷ drop (n + 1) s.tasks)) 0 (λ e. omega arith) in
    let step : claim_step s w ≡ Ok (record s { hands = slice_set s.hands w (record h { task = Some t }); unclaimed = drop (n + 1) s.tasks }) =
    rw (hand, none, next, some_left) refl in
    let here : Follows (claim_step s w) s (Ok tt) new = rw step (refl, is) in
    subst (λ m. Follows (claim_step m w) m (Ok tt) new) view here

no_tasks_held : (hands : List Hand) → list_all is_empty_hand hands ≡ true → count_by (λ h. is_some h.task) hands ≡ 0
no_tasks_held [] e = refl
no_tasks_held (h ∷ hands) e = (elim (is_empty_hand h) as (λ b. is_empty_hand h ≡ b → (b && list_all is_empty_hand hands) ≡ true
    → count_by (λ h. is_some h.task) (h ∷ hands) ≡ 0) [
      | true ↦ λ t k. let c = sum_by-cons (λ l. one (is_some l.task)) h hands in let n : one (is_some h.task) ≡ 0 = ap (λ o. one (is_some o))
          (empty_parts h t).0
          in let r = no_tasks_held hands k in omega arith
      | false ↦ λ t k. absurd (true≢false (sym k))
    ]) refl e

pub kept_wave : (s : Core) (next room room' : ℕ) (ts : List ℕ) (b : Bool) → IsKept s next room → room ≤ room' → list_all is_empty_hand s.hands ≡ true
    → IsKept (record s { in_wave = b; tasks = ts; unclaimed = ts; done = [] }) 0 room'
kept_wave s next room room' ts b k more idle = record {
  small_limit = k.small_limit;
  some_worker = k.some_worker;
  few_workers = k.few_workers;
  cut = omega arith;
  room_fits = (let r = k.room_fits in omega arith);
  counted = (let n = no_tasks_held s.hands idle in let g : length ts + 0 + count_by (λ h. is_some h.task) s.hands ≡ length ts = omega arith in g);
}

-- more tasks than pools, all present, are no different ones
pub repeat_of_many : (s : Core) (ts : List ℕ) → IsSound s → list_any (λ t. is_none (pool_at s.pools t)) ts ≡ false → length s.pools < length ts
    → has_repeat ts ≡ true
repeat_of_many s ts sound present many = (elim (has_repeat ts) as (λ b. has_repeat ts ≡ b → b ≡ true) [
  | true ↦ λ e. refl
  | false ↦ λ e. let l = length-le_from_keys nat_eq_equiv ts s.pools (distinct_of ts e) (all_present s ts present) in absurd (omega arith)
]) refl

-- a number that is counted stands in the list
counted_in : (t : ℕ) (xs : List ℕ) → 0 < count_by (nat_eq t) xs → is_in t xs ≡ true
counted_in t [] h = absurd (omega arith)
counted_in t (x ∷ xs) h = (elim (nat_eq t x) as (λ b. nat_eq t x ≡ b → (b || is_in t xs) ≡ true) [
  | true ↦ λ e. refl
  | false ↦ λ e. let c = sum_by-cons (λ i. one (nat_eq t i)) x xs in let z : one (nat_eq t x) ≡ 0 = ap one e in counted_in t xs (omega arith)
]) refl

in_counted : (t : ℕ) (xs : List ℕ) → is_in t xs ≡ true → 0 < count_by (nat_eq t) xs
in_counted t [] h = cc
in_counted t (x ∷ xs) h = (elim (nat_eq t x) as (λ b. nat_eq t x ≡ b → (b || is_in t xs) ≡ true → 0 < count_by (nat_eq t) (x ∷ xs)) [
  | true ↦ λ e k. let c = sum_by-cons (λ i. one (nat_eq t i)) x xs in let z : one (nat_eq t x) ≡ 1 = ap one e in omega arith
  | false ↦ λ e k. let c = sum_by-cons (λ i. one (nat_eq t i)) x xs in let r = in_counted t xs k in omega arith
]) refl h

few_hold : (hands : List Hand) (t : ℕ) → hands_with (λ h. h.task) hands t ≤ count_by (λ h. is_some h.task) hands
few_hold [] t = omega arith
few_hold (h ∷ hands) t = let a = sum_by-cons (λ l. one (holds l.task t)) h hands in let b = sum_by-cons (λ l. one (is_some l.task)) h hands in let r = few_hold
    hands t in let z = one_place h.task t in omega arith
  where
    one_place : (o : Option ℕ) (t : ℕ) → one (holds o t) ≤ one (is_some o)
    one_place None t = omega arith
    one_place (Some q) t = at_most (holds (Some q) t)
      where
        at_most : (b : Bool) → one b ≤ 1
        at_most true = omega arith
        at_most false = omega arith

no_list : (xs : List ℕ) → length xs ≡ 0 → xs ≡ []
no_list [] h = refl
no_list (x ∷ xs) h = absurd (omega arith)

all_of : (p : ℕ → Bool) (xs : List ℕ) → ((t : ℕ) → is_in t xs ≡ true → p t ≡ true) → list_all p xs ≡ true
all_of p [] h = refl
all_of p (x ∷ xs) h = rw (h x (rw (nat_eq_equiv.refl x) refl)) (all_of p xs (λ t i. h t (or_true (nat_eq t x) (is_in t xs) i)))
  where
    or_true : (a b : Bool) → b ≡ true → (a || b) ≡ true
    or_true true b e = refl
    or_true false b e = e

each_of : (p : ℕ → Bool) (xs : List ℕ) → list_all p xs ≡ true → (t : ℕ) → is_in t xs ≡ true → p t ≡ true
each_of p [] h t i = cc
each_of p (x ∷ xs) h t i = let both = both_true (p x) (list_all p xs) h in (elim (nat_eq t x) as (λ b. nat_eq t x ≡ b → (b || is_in t xs) ≡ true → p t ≡ true) [
  | true ↦ λ e k. ap p (same_number t x e) ∙ both.0
  | false ↦ λ e k. each_of p xs both.1 t k
]) refl i
  where
    both_true : (a b : Bool) → (a && b) ≡ true → (a ≡ true) × (b ≡ true)
    both_true true b e = (refl, e)
    both_true false b e = cc

-- the tasks are done exactly where as many are
pub done_all : (s : Core) (n room : ℕ) → IsSound s → IsKept s n room → length s.tasks ≤ length s.done → list_all (λ t. is_in t s.done) s.tasks ≡ true
done_all s n room sound kept full = all_of (λ t. is_in t s.done) s.tasks (λ t i.
    let c = kept.counted in let k = sound.tasks_kept t in let f = few_hold s.hands t in let z = in_counted t s.tasks i in
    let u : s.unclaimed ≡ [] = no_list s.unclaimed (omega arith) in let e : count_by (nat_eq t) s.unclaimed ≡ 0 = ap (count_by (nat_eq t)) u in counted_in t
    s.done (omega arith))

pub done_short : (s : Core) → IsSound s → length s.done < length s.tasks → list_all (λ t. is_in t s.done) s.tasks ≡ false
done_short s sound short = (elim (list_all (λ t. is_in t s.done) s.tasks) as (λ b. list_all (λ t. is_in t s.done) s.tasks ≡ b → b ≡ false) [
  | true ↦ λ e. let l = length-le_from_is_member nat_eq_equiv s.tasks s.done sound.tasks_differ (each_of (λ t. is_in t s.done) s.tasks e)
      in absurd (omega arith)
  | false ↦ λ e. refl
]) refl

pub end_follows : (s now new : Core) → s ≡ now → s.in_wave ≡ true → list_all is_empty_hand s.hands ≡ true → list_all (λ t. is_in t s.done) s.tasks ≡ true →
    new ≡ record s { in_wave = false; tasks = []; unclaimed = []; done = [] } → Follows (end_wave_step now) now (Ok tt) new
end_follows s now new view open_now idle full is =
    let step : end_wave_step s ≡ Ok (record s { in_wave = false; tasks = []; unclaimed = []; done = [] }) = rw (open_now, idle, full) refl in
    let here : Follows (end_wave_step s) s (Ok tt) new = rw step (refl, is) in
    subst (λ m. Follows (end_wave_step m) m (Ok tt) new) view here

pub end_undone : (s now : Core) → s ≡ now → s.in_wave ≡ true → list_all (λ t. is_in t s.done) s.tasks ≡ false → Follows (end_wave_step now) now (Err InUse) now
end_undone s now view open_now short =
    let step : end_wave_step s ≡ Err InUse = rw (open_now, short) (by_hands (list_all is_empty_hand s.hands)) in
    let here : Follows (end_wave_step s) s (Err InUse) s = rw step (refl, refl) in
    subst (λ m. Follows (end_wave_step m) m (Err InUse) m) view here
  where
    by_hands : (b : Bool) → (if not b || true then Err InUse else Ok (record s { in_wave = false; tasks = []; unclaimed = []; done = [] })) ≡ Err InUse
    by_hands true = refl
    by_hands false = refl
