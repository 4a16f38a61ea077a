-- A table without pools: slots that are all empty.
use Rattle.std.proofs.Common.{◌≡◌, ℕ, zero, suc, ◌+◌, ◌-◌, ◌<◌, ◌≤◌, ◌^◌, Bool, true, false, nat_eq, List, [], ◌∷◌, ◌++◌, reverse, replicate, length}
use Rattle.std.proofs.Common.{Option, Some, None, IsSome, refl, sym, ap, subst, arith, ◌∙◌, cond, length-append, add-one}
use Rattle.std.specs.List.{IsDistinct, AllByRecursion, slice_get}
use Rattle.std.specs.Map.{keys_of, lookup, lookup_entry}
use Rattle.std.proofs.lemmas.List.{reverse-append, length-reverse, length-replicate, take_all}
use Rattle.std.proofs.lemmas.Map.Keys.{IsDistinct-cons, IsDistinct-from_apart}
use Rattle.std.proofs.lemmas.Option.{same_Some}
use Rattle.lru.specs.LruCache.{put_entries}
use Rattle.std.specs.Prelude.{count_by, is_some}
use Rattle.std.proofs.lemmas.List.Sums.{sum_by-cons}
use Rattle.naim_core.specs.Charges.{under_sum, held_sum}
use Rattle.naim_core.specs.Links.{IsRing}
use Rattle.naim_core.specs.Sound.{IsSound, hands_with}
use Rattle.naim_core.specs.State.{IsKept, start, empty_hand, holds, is_free}
use Rattle.naim_core.specs.declared.pool.Stage.{Stage}
use Rattle.naim_core.specs.declared.ring.Ring.{Ring}
use Rattle.naim_core.specs.declared.state.Hand.{Hand}
use Rattle.naim_core.proofs.Keeps.{one}
use Rattle.naim_core.specs.Table.{Order, pools_in, IsSpare, IsTable, slots_at, AreRings, is_resident}
use Rattle.list_laws.proofs.Entries.{other_number, apart_number, same_number}

-- n empty slots, in the order in which they were put
pub empty_order : ℕ → Order
empty_order zero = []
empty_order (suc n) = (n, None) ∷ empty_order n

-- their numbers
pub numbers : ℕ → List ℕ
numbers zero = []
numbers (suc n) = numbers n ++ n ∷ []

pub empty_zero : empty_order 0 ≡ []
unfolding empty_order
empty_zero = refl

pub numbers_zero : numbers 0 ≡ []
unfolding numbers
numbers_zero = refl

pub numbers_next : (n : ℕ) → numbers (n + 1) ≡ numbers n ++ n ∷ []
unfolding numbers
numbers_next n = rw add-one refl

pub length_empty : (n : ℕ) → length (empty_order n) ≡ n
unfolding empty_order
length_empty zero = refl
length_empty (suc n) = let i = length_empty n in let g : length ((n, None) ∷ empty_order n) ≡ suc n = omega arith in g

pub length_numbers : (n : ℕ) → length (numbers n) ≡ n
unfolding numbers
length_numbers zero = refl
length_numbers (suc n) = let i = length_numbers n in let l = length-append (numbers n) (n ∷ []) in omega arith

no_pools : (n : ℕ) → pools_in (empty_order n) ≡ []
unfolding empty_order
no_pools zero = refl
no_pools (suc n) = no_pools n

above : (n m : ℕ) → n ≤ m → AllByRecursion (λ y. nat_eq m y ≡ false) (keys_of (empty_order n))
unfolding empty_order
above zero m h = tt
above (suc n) m h = (other_number m n (λ e. omega arith), above n m (omega arith))

nothing_differs : IsDistinct nat_eq []
nothing_differs = IsDistinct-from_apart nat_eq [] (λ i j d lt h. absurd (omega arith))

slots_differ : (n : ℕ) → IsDistinct nat_eq (keys_of (empty_order n))
unfolding empty_order
slots_differ zero = nothing_differs
slots_differ (suc n) = IsDistinct-cons nat_eq n (keys_of (empty_order n)) (above n n (omega arith)) (slots_differ n)

absent_entry : (n m : ℕ) → n ≤ m → lookup_entry (nat_eq m) (empty_order n) ≡ None
unfolding empty_order
absent_entry zero m h = refl
absent_entry (suc n) m h = rw (other_number m n (λ e. omega arith)) (absent_entry n m (omega arith))

pub put_next : (n cap : ℕ) → n < cap → put_entries nat_eq (record { entries = empty_order n; cap = cap }) n None ≡ empty_order (n + 1)
unfolding empty_order
put_next n cap h = rw (absent_entry n n (omega arith)) (rw add-one
    (ap (λ es. (n, None) ∷ es) (take_all (cap - 1) (empty_order n) (let l = length_empty n in omega arith))))

found_empty : (n m : ℕ) → m < n → lookup (nat_eq m) (empty_order n) ≡ Some None
unfolding empty_order
found_empty zero m h = absurd (omega arith)
found_empty (suc n) m h = (elim (nat_eq m n) as (λ b. nat_eq m n ≡ b → cond b (Some None) (lookup (nat_eq m) (empty_order n)) ≡ Some None) [
  | true ↦ λ t. refl
  | false ↦ λ t. found_empty n m (let d = apart_number m n t in omega arith)
]) refl

-- the numbers of the slots, the last first
numbers_back : (n : ℕ) → reverse (numbers n) ≡ keys_of (empty_order n)
unfolding empty_order numbers
numbers_back zero = refl
numbers_back (suc n) = reverse-append (numbers n) (n ∷ []) ∙ ap (λ l. n ∷ l) (numbers_back n)

all_empty : (m n : ℕ) → n ≤ m → AllByRecursion (λ i. lookup (nat_eq i) (empty_order m) ≡ Some None) (keys_of (empty_order n))
unfolding empty_order
all_empty m zero h = tt
all_empty m (suc n) h = (found_empty m n (omega arith), all_empty m n (omega arith))

no_index : (n p : ℕ) (i : Option ℕ) → slice_get (replicate n None) p ≡ Some i → i ≡ None
no_index zero p i h = cc
no_index (suc n) zero i h = sym (same_Some None i h)
no_index (suc n) (suc p) i h = no_index n p i h

-- the table that `new` makes
pub fresh_table : (n m room : ℕ) → n ≡ 4096 → 4096 ≤ room → IsTable (empty_order n) (replicate m None) (numbers n) room 0 0
fresh_table n m room is fits = record {
  slots = record {
    slots_differ = slots_differ n;
    pids_differ = subst (λ ps. IsDistinct nat_eq (keys_of ps)) (sym (no_pools n)) nothing_differs;
  };
  indexed = record {
    missing = λ p h. ap (λ ps. lookup (nat_eq p) ps) (no_pools n);
    found = λ p i h. let e = no_index m p (Some i) h in cc;
  };
  spares = subst (IsSpare (empty_order n)) (sym (numbers_back n)) (record {
    empty = all_empty n n (omega arith);
    differ = slots_differ n;
    count = (let a = ap length (no_pools n) in let b = ap length (numbers_back n) in let c = length_numbers n in let d = length-reverse (numbers n)
        in omega arith);
  });
  room_fits = fits;
  under_is = sym (ap under_sum (no_pools n));
  held_is = sym (ap held_sum (no_pools n));
  held_fits = omega arith;
}

-- the rings that `new` makes
no_slots : (test : Stage → Bool) (n : ℕ) → slots_at test (empty_order n) ≡ []
unfolding empty_order
no_slots test zero = refl
no_slots test (suc n) = no_slots test n

below_all : (n i : ℕ) → IsSome (lookup (nat_eq i) (empty_order n)) → i < n
unfolding empty_order
below_all zero i h = cc
below_all (suc n) i h = (elim (nat_eq i n) as (λ b. nat_eq i n ≡ b → i < suc n) [
  | true ↦ λ t. let s = same_number i n t in omega arith
  | false ↦ λ t. let k = below_all n i (rw t at h) in omega arith
]) refl

pub fresh_rings : (n : ℕ) → n ≡ 4096 → (free resident : Ring) → IsRing free.behind.items free.before.items []
    → IsRing resident.behind.items resident.before.items [] → AreRings (empty_order n) free resident
fresh_rings n is free resident f r = record {
  free_is = subst (IsRing free.behind.items free.before.items) (sym (no_slots is_free n)) f;
  resident_is = subst (IsRing resident.behind.items resident.before.items) (sym (no_slots is_resident n)) r;
  slots_fit = λ i h. let k = below_all n i h in omega arith;
}

pub fresh_pools : (n : ℕ) → pools_in (empty_order n) ≡ []
fresh_pools n = no_pools n

nobody_holds : (place : Hand → Option ℕ) (n q : ℕ) → place empty_hand ≡ None → hands_with place (replicate n empty_hand) q ≡ 0
nobody_holds place zero q none = refl
nobody_holds place (suc n) q none = let c = sum_by-cons (λ h. one (holds (place h) q)) empty_hand (replicate n empty_hand) in let z : one
    (holds (place empty_hand) q) ≡ 0 = ap (λ o. one (holds o q)) none in let r = nobody_holds place n q none in omega arith

no_task_count : (n : ℕ) → count_by (λ h. is_some h.task) (replicate n empty_hand) ≡ 0
no_task_count zero = refl
no_task_count (suc n) = let c = sum_by-cons (λ h. one (is_some h.task)) empty_hand (replicate n empty_hand) in let r = no_task_count n in let z : one
    (is_some empty_hand.task) ≡ 0 = refl in omega arith

all_are_empty : (n w : ℕ) (h : Hand) → slice_get (replicate n empty_hand) w ≡ Some h → h ≡ empty_hand
all_are_empty zero w h at = cc
all_are_empty (suc n) zero h at = sym (same_Some empty_hand h at)
all_are_empty (suc n) (suc w) h at = all_are_empty n w h at

-- the state that `new` makes is sound
pub fresh_sound : (limit n : ℕ) → IsSound (start limit n)
fresh_sound limit n = record {
  under_fits = omega arith;
  one_pool = nothing_differs;
  slots = omega arith;
  forms_fit = λ p x at. cc;
  readers = λ p. nobody_holds (λ h. h.read) n p refl;
  writers = λ p. nobody_holds (λ h. h.written) n p refl;
  one_mover = λ p. nobody_holds (λ h. h.moved) n p refl;
  pins_kept = λ w h at p x d m is. (let e : None ≡ Some p = sym (ap (λ k. k.moved) (all_are_empty n w h at)) ∙ m in cc);
  one_disk_move = refl;
  disk_owner = λ w o. cc;
  tasks_differ = nothing_differs;
  tasks_present = λ t i. cc;
  tasks_kept = λ t. (let z = nobody_holds (λ h. h.task) n t refl in let g : 0 + 0 + hands_with (λ h. h.task) (replicate n empty_hand) t ≡ 0 = omega arith in g);
  own_task = λ i. cc;
  no_tasks = λ i. refl;
}

pub fresh_kept : (limit n room : ℕ) → limit ≤ 2 ^ 30 → 0 < n → n ≤ 64 → 4096 ≤ room → IsKept (start limit n) 0 room
fresh_kept limit n room a b c d = record {
  small_limit = a;
  some_worker = (let l = length-replicate n empty_hand in omega arith);
  few_workers = (let l = length-replicate n empty_hand in omega arith);
  cut = omega arith;
  room_fits = d;
  counted = (let z = no_task_count n in let g : 0 + 0 + count_by (λ h. is_some h.task) (replicate n empty_hand) ≡ 0 = omega arith in g);
}
