-- A table stays one, after a slot's content has changed.
use Rattle.std.proofs.Common.{◌≡◌, ℕ, zero, suc, ◌+◌, ◌<◌, ◌≤◌, ◌^◌, true, false, cond, nat_eq, List, [], ◌∷◌, ◌++◌, length}
use Rattle.std.proofs.Common.{Option, Some, None, IsSome, refl, sym, ap, subst, arith, ◌∙◌, sum_by, ◌⊎◌, inl, inr, reverse}
use Rattle.std.specs.Cmp.{nat_eq_equiv}
use Rattle.std.specs.List.{IsDistinct, AllByRecursion, slice_get, slice_set}
use Rattle.std.specs.Option.{option_map}
use Rattle.std.specs.Map.{keys_of, values_of, lookup, remove_entry, set_value}
use Rattle.std.proofs.lemmas.Map.{length-set_value}
use Rattle.std.proofs.lemmas.List.{reverse-append}
use Rattle.std.proofs.lemmas.List.Sums.{sum_by-cons}
use Rattle.std.proofs.lemmas.Map.Entries.{sum_by-set_value}
use Rattle.std.proofs.lemmas.Map.Keys.{IsDistinct-cons, IsDistinct-head, IsDistinct-tail}
use Rattle.std.proofs.lemmas.Option.{same_Some}
use Rattle.naim_core.specs.Charges.{under_part, held_part, under_sum, held_sum}
use Rattle.naim_core.specs.Table.{Order, pools_in, pid_at, IsFound, IsOrder, IsIndexed, IsSpare, IsTable}
use Rattle.naim_core.specs.declared.pool.Pool.{Pool}
use Rattle.list_laws.proofs.Entries.{same_number, other_number, number_itself, lookup_front, lookup_set, lookup_removed, distinct_front, distinct_set}
use Rattle.list_laws.proofs.Entries.{distinct_removed, sum_removed, length_removed, apart_from_none}
use Rattle.naim_core.proofs.Places.{slot_found, removed_pool, set_pool, removed_empty}

-- what a look-up finds after the content at i has become v
abbrev pub Changed : {X : Type 0} → ℕ → X → List (ℕ × X) → List (ℕ × X) → Type 0
Changed i v old new = (q : ℕ) → lookup (nat_eq q) new ≡ cond (nat_eq i q) (Some v) (lookup (nat_eq q) old)

indexed_changed : (i p : ℕ) (x y : Pool) (old new : Order) (index : List (Option ℕ)) → IsIndexed old index →
    lookup (nat_eq i) old ≡ Some (Some (p, x)) → lookup (nat_eq p) (pools_in old) ≡ Some x →
    Changed i (Some (p, y)) old new → Changed p y (pools_in old) (pools_in new) → IsIndexed new index
indexed_changed i p x y old new index was at there slots pools = record {
  missing = λ q m. let none = was.missing q m in (elim (nat_eq p q) as (λ b. nat_eq p q ≡ b → lookup (nat_eq q) (pools_in new) ≡ None) [
    | true ↦ λ t. let same = same_number p q t in let e : Some x ≡ None = sym there ∙ (ap (λ k. lookup (nat_eq k) (pools_in old)) same ∙ none) in cc
    | false ↦ λ t. let e = pools q in rw t at e ∙ none
  ]) refl;
  found = λ q j m. let pid = was.found q j m in (elim (nat_eq i j) as (λ b. nat_eq i j ≡ b → pid_at new j ≡ Some q) [
    | true ↦ λ t. let same = same_number i j t in
        let e = slots j in let e' = rw t at e in
        let h : lookup (nat_eq j) old ≡ Some (Some (p, x)) = ap (λ k. lookup (nat_eq k) old) (sym same) ∙ at in
        let k = rw h at pid in rw e' k
    | false ↦ λ t. let e = slots j in let e' = rw t at e in rw e' pid
  ]) refl;
}

all_weaker : {X : Type 0} (P Q R : X → Type 0) (xs : List X) → ((x : X) → P x → Q x → R x) → AllByRecursion P xs → AllByRecursion Q xs → AllByRecursion R xs
all_weaker P Q R [] f h k = tt
all_weaker P Q R (x ∷ xs) f h k = (f x h.0 k.0, all_weaker P Q R xs f h.1 k.1)

spare_changed : (i p : ℕ) (x y : Pool) (old new : Order) (stack : List ℕ) → IsSpare old stack →
    lookup (nat_eq i) old ≡ Some (Some (p, x)) → Changed i (Some (p, y)) old new → length (pools_in new) ≡ length (pools_in old) → IsSpare new stack
spare_changed i p x y old new stack was at slots len = record {
  empty = all_weaker (λ j. lookup (nat_eq j) old ≡ Some None) (λ j. lookup (nat_eq j) old ≡ Some None) (λ j. lookup (nat_eq j) new ≡ Some None) stack
      (λ j e _. (elim (nat_eq i j) as (λ b. nat_eq i j ≡ b → lookup (nat_eq j) new ≡ Some None) [
        | true ↦ λ t. let same = same_number i j t in let c : Some (Some (p, x)) ≡ Some None = sym at ∙ (ap (λ k. lookup (nat_eq k) old) same ∙ e) in cc
        | false ↦ λ t. let c = slots j in rw t at c ∙ e
      ]) refl) was.empty was.empty;
  differ = was.differ;
  count = ap (λ n. n + length stack) len ∙ was.count;
}

-- the content of a pool has changed, and it went to the front
pub table_front : (i p : ℕ) (x y : Pool) (old : Order) (index : List (Option ℕ)) (spare : List ℕ) (room u h u' h' : ℕ) → IsTable old index spare room u h
    → h' < 2 ^ 64 →
    lookup (nat_eq i) old ≡ Some (Some (p, x)) → u' + under_part x ≡ u + under_part y → h' + held_part x ≡ h + held_part y →
    IsTable ((i, Some (p, y)) ∷ remove_entry (nat_eq i) old) index spare room u' h'
table_front i p x y old index spare room u h u' h' t fits at du dh =
    let ps = pools_in old in
    let there = slot_found i p x old t.slots.pids_differ at in
    let new : Order = (i, Some (p, y)) ∷ remove_entry (nat_eq i) old in
    let is : pools_in new ≡ (p, y) ∷ remove_entry (nat_eq p) ps = ap (λ l. (p, y) ∷ l) (removed_pool i p x old t.slots.pids_differ at) in
    let slots : Changed i (Some (p, y)) old new = λ q. lookup_front i q (Some (p, y)) old t.slots.slots_differ in
    let pools : Changed p y ps (pools_in new) = λ q. ap (λ l. lookup (nat_eq q) l) is ∙ lookup_front p q y ps t.slots.pids_differ in
    let len : length (pools_in new) ≡ length ps = (let a = ap length is in let b = length_removed p x ps there in omega arith) in
    record {
      slots = record {
        slots_differ = distinct_front i (Some (p, y)) old t.slots.slots_differ;
        pids_differ = subst (λ l. IsDistinct nat_eq (keys_of l)) (sym is) (distinct_front p y ps t.slots.pids_differ);
      };
      indexed = indexed_changed i p x y old new index t.indexed at there slots pools;
      spares = spare_changed i p x y old new (reverse spare) t.spares at slots len;
      room_fits = t.room_fits;
      under_is = (let a : sum_by under_part (values_of (pools_in new)) ≡ sum_by under_part (y ∷ values_of (remove_entry (nat_eq p) ps)) = ap under_sum is in
          let k = sum_by-cons under_part y (values_of (remove_entry (nat_eq p) ps)) in let b = sum_removed under_part p x ps there in let c = t.under_is
          in omega arith);
      held_fits = fits;
      held_is = (let a : sum_by held_part (values_of (pools_in new)) ≡ sum_by held_part (y ∷ values_of (remove_entry (nat_eq p) ps)) = ap held_sum is in
          let k = sum_by-cons held_part y (values_of (remove_entry (nat_eq p) ps)) in let b = sum_removed held_part p x ps there in let c = t.held_is
          in omega arith);
    }

-- the content of a pool has changed in its place
pub table_set : (i p : ℕ) (x y : Pool) (old : Order) (index : List (Option ℕ)) (spare : List ℕ) (room u h u' h' : ℕ) → IsTable old index spare room u h
    → h' < 2 ^ 64 →
    lookup (nat_eq i) old ≡ Some (Some (p, x)) → u' + under_part x ≡ u + under_part y → h' + held_part x ≡ h + held_part y →
    IsTable (set_value (nat_eq i) old (Some (p, y))) index spare room u' h'
table_set i p x y old index spare room u h u' h' t fits at du dh =
    let ps = pools_in old in
    let there = slot_found i p x old t.slots.pids_differ at in
    let new : Order = set_value (nat_eq i) old (Some (p, y)) in
    let is : pools_in new ≡ set_value (nat_eq p) ps y = set_pool i p x y old t.slots.pids_differ at in
    let some_slot : IsSome (lookup (nat_eq i) old) = rw at refl in
    let some_pool : IsSome (lookup (nat_eq p) ps) = rw there refl in
    let slots : Changed i (Some (p, y)) old new = λ q. lookup_set i q (Some (p, y)) old some_slot in
    let pools : Changed p y ps (pools_in new) = λ q. ap (λ l. lookup (nat_eq q) l) is ∙ lookup_set p q y ps some_pool in
    let len : length (pools_in new) ≡ length ps = ap length is ∙ length-set_value (nat_eq p) ps y in
    record {
      slots = record {
        slots_differ = distinct_set i (Some (p, y)) old t.slots.slots_differ;
        pids_differ = subst (λ l. IsDistinct nat_eq (keys_of l)) (sym is) (distinct_set p y ps t.slots.pids_differ);
      };
      indexed = indexed_changed i p x y old new index t.indexed at there slots pools;
      spares = spare_changed i p x y old new (reverse spare) t.spares at slots len;
      room_fits = t.room_fits;
      under_is = (let a = ap under_sum is in let b = sum_by-set_value under_part (nat_eq p) ps x y there in let c = t.under_is in omega arith);
      held_fits = fits;
      held_is = (let a = ap held_sum is in let b = sum_by-set_value held_part (nat_eq p) ps x y there in let c = t.held_is in omega arith);
    }

-- the element at a place of a list after a write
get_written : {X : Type 0} (xs : List X) (p q : ℕ) (v w : X) → slice_get (slice_set xs p v) q ≡ Some w
    → ((q ≡ p) × (v ≡ w)) ⊎ ((nat_eq q p ≡ false) × (slice_get xs q ≡ Some w))
get_written [] p q v w h = cc
get_written (x ∷ xs) zero zero v w h = inl (refl, same_Some v w h)
get_written (x ∷ xs) zero (suc q) v w h = inr (other_number (suc q) 0 (λ e. omega arith), h)
get_written (x ∷ xs) (suc p) zero v w h = inr (other_number 0 (suc p) (λ e. omega arith), h)
get_written (x ∷ xs) (suc p) (suc q) v w h = elim (get_written xs p q v w h) [
  | inl y ↦ inl (ap suc y.0, y.1)
  | inr n ↦ inr (
    other_number (suc q) (suc p)
        (λ e. let k : q ≡ p = omega arith in let y : nat_eq q p ≡ true = ap (nat_eq q) (sym k) ∙ number_itself q in cc),
    n.1,
  )
]

-- a pool that was absent has the slot i, which was empty, and stands first
pub table_added : (i p : ℕ) (x : Pool) (old : Order) (index : List (Option ℕ)) (rest : List ℕ) (room room' u h : ℕ)
    → IsTable old index (rest ++ i ∷ []) room u h → 4096 ≤ room' → h + held_part x < 2 ^ 64 →
    lookup (nat_eq p) (pools_in old) ≡ None
    → IsTable ((i, Some (p, x)) ∷ remove_entry (nat_eq i) old) (slice_set index p (Some i)) rest room' (u + under_part x) (h + held_part x)
table_added i p x old index rest room room' u h t room_fits fits none =
    let ps = pools_in old in
    let stack : reverse (rest ++ i ∷ []) ≡ i ∷ reverse rest = reverse-append rest (i ∷ []) in
    let was = subst (IsSpare old) stack t.spares in
    let at : lookup (nat_eq i) old ≡ Some None = was.empty.0 in
    let new : Order = (i, Some (p, x)) ∷ remove_entry (nat_eq i) old in
    let is : pools_in new ≡ (p, x) ∷ ps = ap (λ l. (p, x) ∷ l) (removed_empty i old at) in
    let slots : Changed i (Some (p, x)) old new = λ q. lookup_front i q (Some (p, x)) old t.slots.slots_differ in
    let apart_i = IsDistinct-head nat_eq i (reverse rest) was.differ in
    record {
      slots = record {
        slots_differ = distinct_front i (Some (p, x)) old t.slots.slots_differ;
        pids_differ = subst (λ l. IsDistinct nat_eq (keys_of l)) (sym is)
            (IsDistinct-cons nat_eq p (keys_of ps) (apart_from_none p ps none) t.slots.pids_differ);
      };
      indexed = record {
        missing = λ q m. elim (get_written index p q (Some i) None m) [
          | inl y ↦ let c : Some i ≡ None = y.1 in cc
          | inr n ↦ let e = t.indexed.missing q n.1 in ap (λ l. lookup (nat_eq q) l) is ∙ rw n.0 e
        ];
        found = λ q j m. elim (get_written index p q (Some i) (Some j) m) [
          | inl y ↦ let same : i ≡ j = same_Some i j y.1 in let e = slots j in
              let n : nat_eq i j ≡ true = ap (nat_eq i) (sym same) ∙ number_itself i in
              let e' = rw n at e in rw e' (ap (λ k. Some k) (sym y.0))
          | inr n ↦ let e = t.indexed.found q j n.1 in
              (elim (nat_eq i j) as (λ b. nat_eq i j ≡ b → pid_at new j ≡ Some q) [
                | true ↦ λ eq. let same = same_number i j eq in
                    let h : lookup (nat_eq j) old ≡ Some None = ap (λ k. lookup (nat_eq k) old) (sym same) ∙ at in
                    let c = rw h at e in cc
                | false ↦ λ ne. let c = slots j in let c' = rw ne at c in rw c' e
              ]) refl
        ];
      };
      spares = record {
        empty = all_weaker (λ j. lookup (nat_eq j) old ≡ Some None) (λ j. nat_eq i j ≡ false) (λ j. lookup (nat_eq j) new ≡ Some None) (reverse rest)
            (λ j e ne. let c = slots j in rw ne at c ∙ e) was.empty.1 apart_i;
        differ = IsDistinct-tail nat_eq i (reverse rest) was.differ;
        count = (let a = was.count in let b = ap length is in omega arith);
      };
      room_fits = room_fits;
      under_is = (let a : sum_by under_part (values_of (pools_in new)) ≡ sum_by under_part (x ∷ values_of ps) = ap under_sum is in
          let k = sum_by-cons under_part x (values_of ps) in let c = t.under_is in omega arith);
      held_fits = fits;
      held_is = (let a : sum_by held_part (values_of (pools_in new)) ≡ sum_by held_part (x ∷ values_of ps) = ap held_sum is in
          let k = sum_by-cons held_part x (values_of ps) in let c = t.held_is in omega arith);
    }

-- a pool has gone, and its slot is empty
pub table_removed : (i p : ℕ) (x : Pool) (old : Order) (index : List (Option ℕ)) (spare : List ℕ) (room room' u h u' h' : ℕ) → IsTable old index spare room u h
    → 4096 ≤ room' →
    lookup (nat_eq i) old ≡ Some (Some (p, x)) → u' + under_part x ≡ u → h' + held_part x ≡ h →
    IsTable ((i, None) ∷ remove_entry (nat_eq i) old) (slice_set index p None) (spare ++ i ∷ []) room' u' h'
table_removed i p x old index spare room room' u h u' h' t room_fits at du dh =
    let ps = pools_in old in
    let there = slot_found i p x old t.slots.pids_differ at in
    let new : Order = (i, None) ∷ remove_entry (nat_eq i) old in
    let is : pools_in new ≡ remove_entry (nat_eq p) ps = removed_pool i p x old t.slots.pids_differ at in
    let slots : Changed i None old new = λ q. lookup_front i q None old t.slots.slots_differ in
    let pools : (q : ℕ) → lookup (nat_eq q) (pools_in new) ≡ cond (nat_eq p q) None (lookup (nat_eq q) ps) = λ q. ap (λ l. lookup (nat_eq q) l) is ∙
    lookup_removed p q ps t.slots.pids_differ in
    let stack : reverse (spare ++ i ∷ []) ≡ i ∷ reverse spare = reverse-append spare (i ∷ []) in
    let not_i : (j : ℕ) → lookup (nat_eq j) old ≡ Some None → nat_eq i j ≡ false = λ j e. other_number i j (λ same.
    let c : Some (Some (p, x)) ≡ Some None = sym at ∙ (ap (λ k. lookup (nat_eq k) old) same ∙ e) in cc) in
    record {
      slots = record {
        slots_differ = distinct_front i None old t.slots.slots_differ;
        pids_differ = subst (λ l. IsDistinct nat_eq (keys_of l)) (sym is) (distinct_removed p ps t.slots.pids_differ);
      };
      indexed = record {
        missing = λ q m. elim (get_written index p q None None m) [
          | inl y ↦ let e = pools q in let n : nat_eq p q ≡ true = ap (nat_eq p) y.0 ∙ number_itself p in rw n at e
          | inr n ↦ let e = pools q in let n' : nat_eq p q ≡ false = nat_eq_equiv.symm p q ∙ n.0 in rw n' at e ∙ t.indexed.missing q n.1
        ];
        found = λ q j m. elim (get_written index p q None (Some j) m) [
          | inl y ↦ let c : None ≡ Some j = y.1 in cc
          | inr n ↦ let e = t.indexed.found q j n.1 in
              (elim (nat_eq i j) as (λ b. nat_eq i j ≡ b → pid_at new j ≡ Some q) [
                | true ↦ λ eq. let same = same_number i j eq in
                    let h : lookup (nat_eq j) old ≡ Some (Some (p, x)) = ap (λ k. lookup (nat_eq k) old) (sym same) ∙ at in
                    let c : Some p ≡ Some q = rw h at e in let k : q ≡ p = sym (same_Some p q c) in
                    let f : nat_eq q p ≡ true = ap (nat_eq q) (sym k) ∙ number_itself q in cc
                | false ↦ λ ne. let c = slots j in let c' = rw ne at c in rw c' e
              ]) refl
        ];
      };
      spares = subst (IsSpare new) (sym stack) (record {
        empty = (
          (subst (λ b. lookup (nat_eq i) new ≡ cond b (Some None) (lookup (nat_eq i) old)) (number_itself i) (slots i)),
          all_weaker (λ j. lookup (nat_eq j) old ≡ Some None) (λ j. lookup (nat_eq j) old ≡ Some None) (λ j. lookup (nat_eq j) new ≡ Some None) (reverse spare)
              (λ j e _. let c = slots j in rw (not_i j e) at c ∙ e) t.spares.empty t.spares.empty,
        );
        differ = IsDistinct-cons nat_eq i (reverse spare)
            (all_weaker (λ j. lookup (nat_eq j) old ≡ Some None) (λ j. lookup (nat_eq j) old ≡ Some None) (λ j. nat_eq i j ≡ false) (reverse spare)
            (λ j e _. not_i j e) t.spares.empty t.spares.empty) t.spares.differ;
        count = (let a = t.spares.count in let b = length_removed p x ps there in let c = ap length is in omega arith);
      });
      room_fits = room_fits;
      under_is = (let a = ap under_sum is in let b = sum_removed under_part p x ps there in let c = t.under_is in omega arith);
      held_fits = (let c = t.held_fits in omega arith);
      held_is = (let a = ap held_sum is in let b = sum_removed held_part p x ps there in let c = t.held_is in omega arith);
    }

-- what `found_at` tells, once it is known what it found
pub found_in : (order : Order) (p : ℕ) (found : Option (ℕ × Pool)) (at : ℕ × Pool) → IsFound order p found → found ≡ Some at
    → lookup (nat_eq at.0) order ≡ Some (Some (p, at.1))
found_in order p found at f e = let P : Option (ℕ × Pool) → Type 0 = λ o. IsFound order p o in subst P e f

pub found_pool : (order : Order) (p : ℕ) (found : Option (ℕ × Pool)) → IsOrder order → IsFound order p found
    → option_map (λ at. at.1) found ≡ lookup (nat_eq p) (pools_in order)
found_pool order p None o f = sym f
found_pool order p (Some at) o f = sym (slot_found at.0 p at.1 order o.pids_differ f)

-- a pool that is there is found
pub is_found : (order : Order) (p : ℕ) (found : Option (ℕ × Pool)) → IsFound order p found → IsSome (lookup (nat_eq p) (pools_in order)) → IsSome found
is_found order p None f h = rw f at h
is_found order p (Some at) f h = refl

-- no part is above its sum
pub under_there : (i p : ℕ) (x : Pool) (order : Order) (index : List (Option ℕ)) (spare : List ℕ) (room u h : ℕ) → IsTable order index spare room u h
    → lookup (nat_eq i) order ≡ Some (Some (p, x)) → under_part x ≤ u
under_there i p x order index spare room u h t at = let e = sum_removed under_part p x (pools_in order) (slot_found i p x order t.slots.pids_differ at) in let k
    = t.under_is in omega arith

pub held_there : (i p : ℕ) (x : Pool) (order : Order) (index : List (Option ℕ)) (spare : List ℕ) (room u h : ℕ) → IsTable order index spare room u h
    → lookup (nat_eq i) order ≡ Some (Some (p, x)) → held_part x ≤ h
held_there i p x order index spare room u h t at = let e = sum_removed held_part p x (pools_in order) (slot_found i p x order t.slots.pids_differ at) in let k =
    t.held_is in omega arith

-- an empty slot is next
pub spare_next : (i p : ℕ) (order : Order) (index : List (Option ℕ)) (rest : List ℕ) (room u h : ℕ) → IsTable order index (rest ++ i ∷ []) room u h
    → lookup (nat_eq i) order ≡ Some None
spare_next i p order index rest room u h t = (subst (IsSpare order) (reverse-append rest (i ∷ [])) t.spares).empty.0

-- the content of a slot with the PID p
pub slot_pid : (order : Order) (i p q : ℕ) (x : Pool) → lookup (nat_eq i) order ≡ Some (Some (q, x)) → pid_at order i ≡ Some p
    → lookup (nat_eq i) order ≡ Some (Some (p, x))
slot_pid order i p q x at pid = let k = rw at at pid in let e : q ≡ p = same_Some q p k in at ∙ ap (λ r. Some (Some (r, x))) e
