-- The rings of a table's slots, after a slot's content has changed, and the victim that they tell.
use Rattle.std.proofs.Common.{◌≡◌, ◌≢◌, ◌⊎◌, inl, inr, ℕ, suc, ◌+◌, ◌<◌, ◌≤◌, Bool, true, false, not, cond, nat_eq, nat_le, List, [], ◌∷◌, ◌++◌}
use Rattle.std.proofs.Common.{reverse, length, find, Option, Some, None, IsSome, Ok, refl, sym, ap, subst, arith, ◌∙◌, append_assoc, true≢false}
use Rattle.std.specs.Prelude.{◌&&◌, is_some}
use Rattle.std.specs.List.{IsDistinct, AllByRecursion, slice_get}
use Rattle.std.specs.Option.{option_or, option_map, option_map_or}
use Rattle.std.specs.Map.{keys_of, lookup, remove_entry, set_value}
use Rattle.std.proofs.lemmas.List.{reverse-append, length-reverse}
use Rattle.std.proofs.lemmas.List.Elements.{filter_map-append}
use Rattle.std.proofs.lemmas.Map.Keys.{IsDistinct-head}
use Rattle.std.proofs.lemmas.Option.{same_Some}
use Rattle.naim_core.specs.Links.{Chain, IsRing, InRing, held}
use Rattle.naim_core.specs.Rows
use Rattle.naim_core.specs.State.{is_free, is_compacted, is_moving, is_away, is_compacting, victim, holds}
use Rattle.naim_core.specs.Steps.{permit}
use Rattle.naim_core.specs.Table.{Place, Order, pools_in, IsOrder, AreRings, RingSlots, passes, slots_at, is_resident, pid_if, first_at}
use Rattle.naim_core.specs.declared.event.Refusal.{Refusal}
use Rattle.naim_core.specs.declared.event.Refusal.TheVariants.{HandFull, Moving, WrongForm, Fits, NotVictim, NotHeld}
use Rattle.naim_core.specs.declared.pool.Pool.{Pool}
use Rattle.naim_core.specs.declared.pool.Stage.{Stage}
use Rattle.naim_core.specs.declared.pool.Stage.TheVariants as stage
use Rattle.naim_core.specs.declared.ring.Ring.{Ring}
use Rattle.naim_core.specs.declared.state.Hand.{Hand}
use Rattle.list_laws.proofs.Entries.{same_number, distinct_front, lookup_front, lookup_set}
use Rattle.naim_core.proofs.Chains.{Apart, all_back, chain_first}
use Rattle.naim_core.proofs.Events.{permit_gives}
use Rattle.naim_core.proofs.Walks.{lookup_here, last_more}

-- where an entry stands, and the entries without it or with another value
record Cut (i : ℕ) (v : Place) (es : Order) : Type 0 where
  front : Order
  back : Order
  whole : es ≡ front ++ (i, v) ∷ back
  without : remove_entry (nat_eq i) es ≡ front ++ back
  with_value : (w : Place) → set_value (nat_eq i) es w ≡ front ++ (i, w) ∷ back

cut : (i : ℕ) (v : Place) (es : Order) → lookup (nat_eq i) es ≡ Some v → Cut i v es
cut i v [] h = cc
cut i v ((j, u) ∷ es) h = (elim (nat_eq i j) as (λ b. nat_eq i j ≡ b → Cut i v ((j, u) ∷ es)) [
  | true ↦ λ t. let k = rw t at h in let e = same_Some u v k in let s = same_number i j t in record {
    front = [];
    back = es;
    whole = ap (λ p. p ∷ es) (ap (λ n. (n, u)) (sym s) ∙ ap (λ w. (i, w)) e);
    without = rw t refl;
    with_value = λ w. rw t (ap (λ n. (n, w) ∷ es) (sym s));
  }
  | false ↦ λ t. let c = cut i v es (rw t at h) in record {
    front = (j, u) ∷ c.front;
    back = c.back;
    whole = ap (λ l. (j, u) ∷ l) c.whole;
    without = rw t (ap (λ l. (j, u) ∷ l) c.without);
    with_value = λ w. rw t (ap (λ l. (j, u) ∷ l) (c.with_value w));
  }
]) refl

-- the slots of one entry, and of the others behind it
slots_first : (test : Stage → Bool) (i : ℕ) (v : Place) (es : Order) → slots_at test ((i, v) ∷ es) ≡ held (passes test v) i (slots_at test es)
slots_first test i v es = by_test (passes test v) refl
  where
    by_test : (b : Bool) → passes test v ≡ b → slots_at test ((i, v) ∷ es) ≡ held (passes test v) i (slots_at test es)
    by_test true t = rw t refl
    by_test false t = rw t refl

slots_both : (test : Stage → Bool) (xs ys : Order) → slots_at test (xs ++ ys) ≡ slots_at test xs ++ slots_at test ys
slots_both test xs ys = filter_map-append (λ entry. cond (passes test entry.1) (Some entry.0) None) xs ys

slots_mid : (test : Stage → Bool) (front : Order) (i : ℕ) (v : Place) (back : Order)
    → slots_at test (front ++ (i, v) ∷ back) ≡ slots_at test front ++ held (passes test v) i (slots_at test back)
slots_mid test front i v back = slots_both test front ((i, v) ∷ back) ∙ ap (λ l. slots_at test front ++ l) (slots_first test i v back)

-- a slot that is no key is none of the slots
apart_held : (i j : ℕ) (xs : List ℕ) (b : Bool) → nat_eq i j ≡ false → Apart i xs → Apart i (held b j xs)
apart_held i j xs true d h = (d, h)
apart_held i j xs false d h = h

apart_slots : (test : Stage → Bool) (i : ℕ) (es : Order) → Apart i (keys_of es) → Apart i (slots_at test es)
apart_slots test i [] h = tt
apart_slots test i ((j, v) ∷ es) h = subst (Apart i) (sym (slots_first test j v es))
    (apart_held i j (slots_at test es) (passes test v) h.0 (apart_slots test i es h.1))

-- the place of a slot in the ring
at_slot : (test : Stage → Bool) (order : Order) (i : ℕ) (v : Place) (behind before : List ℕ) → IsOrder order → (c : Cut i v order) →
    IsRing behind before (slots_at test order) → i < 4096 → InRing behind before i (passes test v)
at_slot test order i v behind before o c ring fits = record {
  newer = slots_at test c.front;
  older = slots_at test c.back;
  ring = subst (IsRing behind before) (ap (slots_at test) c.whole ∙ slots_mid test c.front i v c.back) ring;
  apart = (let d = IsDistinct-head nat_eq i (keys_of (remove_entry (nat_eq i) order)) (distinct_front i v order o.slots_differ) in
      let d' = subst (λ l. Apart i (keys_of l)) c.without d in subst (Apart i) (slots_both test c.front c.back) (apart_slots test i (c.front ++ c.back) d'));
  fits = fits;
}

-- what the ring's calls require
pub in_ring : (test : Stage → Bool) (order : Order) (i : ℕ) (v : Place) (behind before : List ℕ) → IsOrder order → lookup (nat_eq i) order ≡ Some v →
    IsRing behind before (slots_at test order) → i < 4096 → InRing behind before i (passes test v)
in_ring test order i v behind before o at ring fits = at_slot test order i v behind before o (cut i v order at) ring fits

-- the slot has new content, and went to the front
pub ring_front : (test : Stage → Bool) (order : Order) (i : ℕ) (v w : Place) (behind before behind' before' : List ℕ) → IsOrder order
    → lookup (nat_eq i) order ≡ Some v →
    IsRing behind before (slots_at test order) → i < 4096 →
    ((at : InRing behind before i (passes test v)) → IsRing behind' before' (held (passes test w) i (at.newer ++ at.older))) →
    IsRing behind' before' (slots_at test ((i, w) ∷ remove_entry (nat_eq i) order))
unfolding cut at_slot
ring_front test order i v w behind before behind' before' o at ring fits f =
    let c = cut i v order at in
    let is : slots_at test ((i, w) ∷ remove_entry (nat_eq i) order) ≡ held (passes test w) i (slots_at test c.front ++ slots_at test c.back) =
    slots_first test i w (remove_entry (nat_eq i) order) ∙ ap (held (passes test w) i) (ap (slots_at test) c.without ∙ slots_both test c.front c.back) in
    subst (IsRing behind' before') (sym is) (f (at_slot test order i v behind before o c ring fits))

-- the slot has new content in its place
pub ring_set : (test : Stage → Bool) (order : Order) (i : ℕ) (v w : Place) (behind before behind' before' : List ℕ) → IsOrder order
    → lookup (nat_eq i) order ≡ Some v →
    IsRing behind before (slots_at test order) → i < 4096 →
    ((at : InRing behind before i (passes test v)) → IsRing behind' before' (at.newer ++ held (passes test w) i at.older)) →
    IsRing behind' before' (slots_at test (set_value (nat_eq i) order w))
unfolding cut at_slot
ring_set test order i v w behind before behind' before' o at ring fits f =
    let c = cut i v order at in
    let is = ap (slots_at test) (c.with_value w) ∙ slots_mid test c.front i w c.back in
    subst (IsRing behind' before') (sym is) (f (at_slot test order i v behind before o c ring fits))

-- both rings
pub slot_fits : (order : Order) (free resident : Ring) (i : ℕ) (v : Place) → AreRings order free resident → lookup (nat_eq i) order ≡ Some v → i < 4096
slot_fits order free resident i v r at = r.slots_fit i (rw at refl)

pub rings_front : (order : Order) (i : ℕ) (v w : Place) (free resident free' resident' : Ring) → IsOrder order → lookup (nat_eq i) order ≡ Some v
    → AreRings order free resident →
    ((at : InRing free.behind.items free.before.items i (passes is_free v))
    → IsRing free'.behind.items free'.before.items (held (passes is_free w) i (at.newer ++ at.older))) →
    ((at : InRing resident.behind.items resident.before.items i (passes is_resident v))
    → IsRing resident'.behind.items resident'.before.items (held (passes is_resident w) i (at.newer ++ at.older))) →
    AreRings ((i, w) ∷ remove_entry (nat_eq i) order) free' resident'
rings_front order i v w free resident free' resident' o at r f g = record {
  free_is = ring_front is_free order i v w free.behind.items free.before.items free'.behind.items free'.before.items o at r.free_is
      (slot_fits order free resident i v r at) f;
  resident_is = ring_front is_resident order i v w resident.behind.items resident.before.items resident'.behind.items resident'.before.items o at r.resident_is
      (slot_fits order free resident i v r at) g;
  slots_fit = λ q h. (elim (nat_eq i q) as (λ b. nat_eq i q ≡ b → q < 4096) [
    | true ↦ λ t. subst (λ n. n < 4096) (same_number i q t) (slot_fits order free resident i v r at)
    | false ↦ λ t. let e = lookup_front i q w order o.slots_differ in let e' = rw t at e in r.slots_fit q (subst IsSome e' h)
  ]) refl;
}

pub rings_set : (order : Order) (i : ℕ) (v w : Place) (free resident free' resident' : Ring) → IsOrder order → lookup (nat_eq i) order ≡ Some v
    → AreRings order free resident →
    ((at : InRing free.behind.items free.before.items i (passes is_free v))
    → IsRing free'.behind.items free'.before.items (at.newer ++ held (passes is_free w) i at.older)) →
    ((at : InRing resident.behind.items resident.before.items i (passes is_resident v))
    → IsRing resident'.behind.items resident'.before.items (at.newer ++ held (passes is_resident w) i at.older)) →
    AreRings (set_value (nat_eq i) order w) free' resident'
rings_set order i v w free resident free' resident' o at r f g = record {
  free_is = ring_set is_free order i v w free.behind.items free.before.items free'.behind.items free'.before.items o at r.free_is
      (slot_fits order free resident i v r at) f;
  resident_is = ring_set is_resident order i v w resident.behind.items resident.before.items resident'.behind.items resident'.before.items o at r.resident_is
      (slot_fits order free resident i v r at) g;
  slots_fit = λ q h. (elim (nat_eq i q) as (λ b. nat_eq i q ≡ b → q < 4096) [
    | true ↦ λ t. subst (λ n. n < 4096) (same_number i q t) (slot_fits order free resident i v r at)
    | false ↦ λ t. let e = lookup_set i q w order (rw at refl) in let e' = rw t at e in r.slots_fit q (subst IsSome e' h)
  ]) refl;
}

-- no more slots than pools
few_held : (i n : ℕ) (xs : List ℕ) (b : Bool) → length xs ≤ n → length (held b i xs) ≤ suc n
few_held i n xs true h = omega arith
few_held i n xs false h = omega arith

slots_few : (test : Stage → Bool) (es : Order) → length (slots_at test es) ≤ length (pools_in es)
slots_few test [] = omega arith
slots_few test ((i, None) ∷ es) = slots_few test es
slots_few test ((i, Some (p, x)) ∷ es) = subst (λ l. length l ≤ length ((p, x) ∷ pools_in es)) (sym (slots_first test i (Some (p, x)) es))
    (few_held i (length (pools_in es)) (slots_at test es) (test x.stage) (slots_few test es))

pub few_slots : (test : Stage → Bool) (order : Order) → length (pools_in order) ≤ 4096 → length (slots_at test order) ≤ 4096
few_slots test order few = let k = slots_few test order in omega arith

pub ring_slots : (test : Stage → Bool) (order : Order) (ring : Ring) → IsRing ring.behind.items ring.before.items (slots_at test order)
    → length (pools_in order) ≤ 4096 → RingSlots ring
ring_slots test order ring is few = record { slots = slots_at test order; is = is; few = (let k = slots_few test order in omega arith) }

first_push : (test : Stage → Bool) (order : Order) (slots : List ℕ) (i : ℕ)
    → first_at test order (slots ++ i ∷ []) ≡ option_or (first_at test order slots) (pid_if test (lookup (nat_eq i) order))
first_push test order [] i = or_none (pid_if test (lookup (nat_eq i) order))
  where
    or_none : (o : Option ℕ) → option_or o None ≡ o
    or_none None = refl
    or_none (Some p) = refl
first_push test order (j ∷ slots) i = ap (option_or (pid_if test (lookup (nat_eq j) order))) (first_push test order slots i)
    ∙ or_assoc (pid_if test (lookup (nat_eq j) order)) (first_at test order slots) (pid_if test (lookup (nat_eq i) order))
  where
    or_assoc : (a b c : Option ℕ) → option_or a (option_or b c) ≡ option_or (option_or a b) c
    or_assoc None b c = refl
    or_assoc (Some p) b c = refl

-- each entry is found by its slot
all_found : (front es : Order) → IsDistinct nat_eq (keys_of (front ++ es)) → AllByRecursion (λ e. lookup (nat_eq e.0) (front ++ es) ≡ Some e.1) es
all_found front [] d = tt
all_found front ((i, v) ∷ es) d =
    let is : (front ++ (i, v) ∷ []) ++ es ≡ front ++ (i, v) ∷ es = append_assoc front ((i, v) ∷ []) es in
    let rest = all_found (front ++ (i, v) ∷ []) es (subst (λ l. IsDistinct nat_eq (keys_of l)) (sym is) d) in
    (lookup_here i v front es d, subst (λ l. AllByRecursion (λ e. lookup (nat_eq e.0) l ≡ Some e.1) es) is rest)

or_map : (o : Option (ℕ × Pool)) (b : Bool) (e : ℕ × Pool)
    → option_map (λ x. x.0) (option_or o (cond b (Some e) None)) ≡ option_or (option_map (λ x. x.0) o) (cond b (Some e.0) None)
or_map None true e = refl
or_map None false e = refl
or_map (Some x) b e = refl

-- the last pool that passes is that of the last slot that passes
found_from : (test among : Stage → Bool) (order es : Order) → ((s : Stage) → test s ≡ true → among s ≡ true)
    → AllByRecursion (λ e. lookup (nat_eq e.0) order ≡ Some e.1) es →
    first_at test order (reverse (slots_at among es)) ≡ option_map (λ x. x.0) (find (λ x. test x.1.stage) (reverse (pools_in es)))
found_from test among order [] cover h = refl
found_from test among order ((i, None) ∷ es) cover h = found_from test among order es cover h.1
found_from test among order ((i, Some (p, x)) ∷ es) cover h =
    let more = last_more test (p, x) (pools_in es) in
    let then = found_from test among order es cover h.1 in
    ap (λ l. first_at test order (reverse l)) (slots_first among i (Some (p, x)) es) ∙ by_test (among x.stage) refl then
    ∙ sym (ap (option_map (λ y. y.0)) more ∙ or_map (find (λ y. test y.1.stage) (reverse (pools_in es))) (test x.stage) (p, x))
  where
    by_test : (b : Bool) → among x.stage ≡ b
        → first_at test order (reverse (slots_at among es)) ≡ option_map (λ y. y.0) (find (λ y. test y.1.stage) (reverse (pools_in es))) →
        first_at test order (reverse (held b i (slots_at among es))) ≡ option_or (option_map (λ y. y.0) (find (λ y. test y.1.stage) (reverse (pools_in es))))
        (cond (test x.stage) (Some p) None)
    by_test true t k = ap (first_at test order) (reverse-append (i ∷ []) (slots_at among es)) ∙ first_push test order (reverse (slots_at among es)) i
        ∙ ap (λ o. option_or o (pid_if test (lookup (nat_eq i) order))) k ∙ ap
        (λ o. option_or (option_map (λ y. y.0) (find (λ y. test y.1.stage) (reverse (pools_in es)))) (pid_if test o)) h.0
    by_test false t k = k ∙ sym (none_here (test x.stage) refl (option_map (λ y. y.0) (find (λ y. test y.1.stage) (reverse (pools_in es)))))
      where
        none_here : (b : Bool) → test x.stage ≡ b → (o : Option ℕ) → option_or o (cond b (Some p) None) ≡ o
        none_here true s o = absurd (true≢false (sym (cover x.stage s) ∙ t))
        none_here false s None = refl
        none_here false s (Some q) = refl

pub last_found : (test among : Stage → Bool) (order : Order) → ((s : Stage) → test s ≡ true → among s ≡ true) → IsOrder order →
    first_at test order (reverse (slots_at among order)) ≡ option_map (λ x. x.0) (find (λ x. test x.1.stage) (reverse (pools_in order)))
last_found test among order cover o = found_from test among order order cover (all_found [] order o.slots_differ)

pub compacted_stays : (s : Stage) → is_compacted s ≡ true → is_resident s ≡ true
compacted_stays stage.Free h = cc
compacted_stays (stage.Read n) h = refl
compacted_stays (stage.Written n) h = refl
compacted_stays stage.Compacted h = refl
compacted_stays stage.Offloaded h = h
compacted_stays stage.Compacting h = refl
compacted_stays stage.Offloading h = h
compacted_stays (stage.Reloading m d) h = h

-- the victim by its two parts
pub victim_free : (pools : List (ℕ × Pool)) (f : Option ℕ) → f ≡ option_map (λ x. x.0) (find (λ x. is_free x.1.stage) (reverse pools)) → is_some f ≡ true
    → f ≡ victim pools
victim_free pools f is some = by_case (find (λ x. is_free x.1.stage) (reverse pools)) f is some
  where
    by_case : (o : Option (ℕ × Pool)) (f : Option ℕ) → f ≡ option_map (λ x. x.0) o → is_some f ≡ true
        → f ≡ option_map_or (λ x. Some x.0) o (option_map (λ x. x.0) (find (λ x. is_compacted x.1.stage) (reverse pools)))
    by_case None f is some = absurd (true≢false (sym some ∙ ap is_some is))
    by_case (Some x) f is some = is

pub victim_compacted : (pools : List (ℕ × Pool)) (f g : Option ℕ) → f ≡ option_map (λ x. x.0) (find (λ x. is_free x.1.stage) (reverse pools))
    → is_some f ≡ false →
    g ≡ option_map (λ x. x.0) (find (λ x. is_compacted x.1.stage) (reverse pools)) → g ≡ victim pools
victim_compacted pools f g is none then = by_case (find (λ x. is_free x.1.stage) (reverse pools)) f is none
  where
    by_case : (o : Option (ℕ × Pool)) (f : Option ℕ) → f ≡ option_map (λ x. x.0) o → is_some f ≡ false
        → g ≡ option_map_or (λ x. Some x.0) o (option_map (λ x. x.0) (find (λ x. is_compacted x.1.stage) (reverse pools)))
    by_case None f is none = then
    by_case (Some x) f is none = absurd (true≢false (sym (ap is_some is) ∙ none))

-- what is still to be met on a walk from the back, where it has come to a slot
abbrev pub Reaches : List ℕ → ℕ → List ℕ → Type 0
Reaches before at [] = at ≡ 4096
Reaches before at (x ∷ xs) = (at ≡ x) × Chain before x xs 4096

pub reached : (before : List ℕ) (a at : ℕ) (xs : List ℕ) → Chain before a xs 4096 → slice_get before a ≡ Some at → Reaches before at xs
reached before a at [] h e = same_Some at 4096 (sym e ∙ h)
reached before a at (x ∷ xs) h e = (same_Some at x (sym e ∙ h.0), h.1)

-- events that leave a pool in its place
pub stays_held : (row : Rows.Row) (x y : Pool) → permit row x ≡ Ok y → is_free x.stage ≡ false → is_free y.stage ≡ false
stays_held row x y h f = subst (λ z. is_free z.stage ≡ false) (permit_gives row x y h) f

pub stays_away : (row : Rows.Row) (x y : Pool) {A : Type 0} → permit row x ≡ Ok y → is_resident x.stage ≡ false → is_resident y.stage ≡ true → A
stays_away row x y h f t = let g = subst (λ z. is_resident z.stage ≡ false) (permit_gives row x y h) f in absurd (true≢false (sym t ∙ g))

two_parts : (a b c : Bool) (r s t : Refusal) (row : Rows.Row) (x y : Pool) → permit ((a, r) ∷ (b, s) ∷ (c, t) ∷ row) x ≡ Ok y → (b ≡ false) × (c ≡ false)
two_parts true b c r s t row x y h = cc
two_parts false true c r s t row x y h = cc
two_parts false false true r s t row x y h = cc
two_parts false false false r s t row x y h = (refl, refl)

-- a pool that is neither on its way nor away
resident_here : (s : Stage) → is_moving s ≡ false → is_away s ≡ false → is_resident s ≡ true
resident_here stage.Free m a = refl
resident_here (stage.Read n) m a = refl
resident_here (stage.Written n) m a = refl
resident_here stage.Compacted m a = refl
resident_here stage.Offloaded m a = sym a
resident_here stage.Compacting m a = refl
resident_here stage.Offloading m a = sym m
resident_here (stage.Reloading k d) m a = sym m

pub compacts_resident : (limit under : ℕ) (last : Option ℕ) (x y z : Pool) (h : Hand) (p wanted : ℕ)
    → permit (Rows.compact_begin_row limit under last x h p wanted) z ≡ Ok y → is_resident x.stage ≡ true
compacts_resident limit under last x y z h p bytes e =
    let k = two_parts (is_some h.moved) (is_moving x.stage) (is_away x.stage) HandFull Moving WrongForm
    ((nat_le (under + bytes) limit, Fits) ∷ (not (holds last p), NotVictim) ∷ []) z y e in
    resident_here x.stage k.0 k.1

-- a compaction ends where it was on its way
last_part : (b c : Bool) (r : Refusal) (x y : Pool) → permit ((not (b && c), r) ∷ []) x ≡ Ok y → c ≡ true
last_part true true r x y h = refl
last_part true false r x y h = cc
last_part false c r x y h = cc

compacting_stays : (s : Stage) → is_compacting s ≡ true → is_resident s ≡ true
compacting_stays stage.Free h = refl
compacting_stays (stage.Read n) h = refl
compacting_stays (stage.Written n) h = refl
compacting_stays stage.Compacted h = refl
compacting_stays stage.Offloaded h = h
compacting_stays stage.Compacting h = refl
compacting_stays stage.Offloading h = h
compacting_stays (stage.Reloading m d) h = h

pub ends_resident : (x y z : Pool) (h : Hand) (p : ℕ) → permit (Rows.compact_end_row x h p) z ≡ Ok y → is_resident x.stage ≡ true
ends_resident x y z h p e = compacting_stays x.stage (last_part (holds h.moved p) (is_compacting x.stage) NotHeld z y e)

-- the pool that is found at a place
pub resident_there : (o : Option Pool) (x : Pool) → o ≡ Some x → is_resident x.stage ≡ true → option_map_or (λ y. is_resident y.stage) o false ≡ true
resident_there o x e h = subst (λ k. option_map_or (λ y. is_resident y.stage) k false ≡ true) (sym e) h

pub resident_found : (o : Option Pool) (x : Pool) → o ≡ Some x → option_map_or (λ y. is_resident y.stage) o false ≡ true → is_resident x.stage ≡ true
resident_found o x e h = subst (λ k. option_map_or (λ y. is_resident y.stage) k false ≡ true) e h

-- what is left of a walk from the back, which comes to the slot after so many steps
pub record Ahead (order : Order) (ring : Ring) (test : Stage → Bool) (slot steps : ℕ) (r : RingSlots ring) : Type 0 where
  pub rest : List ℕ
  pub reaches : Reaches ring.before.items slot rest
  pub below : AllByRecursion (λ i. i < 4096) rest
  pub few : length rest + steps ≤ 4096
  pub same : first_at test order rest ≡ first_at test order (reverse r.slots)

pub ahead_start : (order : Order) (ring : Ring) (test : Stage → Bool) (slot : ℕ) (r : RingSlots ring) → slice_get ring.before.items 4096 ≡ Some slot
    → Ahead order ring test slot 0 r
ahead_start order ring test slot r e = record {
  rest = reverse r.slots;
  reaches = reached ring.before.items 4096 slot (reverse r.slots) r.is.back e;
  below = all_back (λ i. i < 4096) r.slots r.is.below;
  few = (let l = length-reverse r.slots in let f = r.few in omega arith);
  same = refl;
}

pub ends_there : (ring : Ring) → RingSlots ring → IsSome (slice_get ring.before.items 4096)
ends_there ring r = rw (chain_first ring.before.items 4096 (reverse r.slots) 4096 r.is.back) refl

-- no slot is left
pub ahead_none : (order : Order) (ring : Ring) (test : Stage → Bool) (slot steps : ℕ) (r : RingSlots ring) → Ahead order ring test slot steps r
    → (slot ≡ 4096) ⊎ (4096 ≤ steps) → None ≡ first_at test order (reverse r.slots)
ahead_none order ring test slot steps r a end = by_rest a.rest a.reaches a.below a.few a.same
  where
    by_rest : (rest : List ℕ) → Reaches ring.before.items slot rest → AllByRecursion (λ i. i < 4096) rest → length rest + steps ≤ 4096
        → first_at test order rest ≡ first_at test order (reverse r.slots) → None ≡ first_at test order (reverse r.slots)
    by_rest [] reach below few same = same
    by_rest (x ∷ rest) reach below few same = absurd (elim end [
      | inl e ↦ let k = below.0 in let s = reach.0 in omega arith
      | inr n ↦ omega arith
    ])

-- the slot's pool passes
pub ahead_found : (order : Order) (ring : Ring) (test : Stage → Bool) (slot steps : ℕ) (r : RingSlots ring) (found : Option ℕ)
    → Ahead order ring test slot steps r → slot ≢ 4096 →
    found ≡ pid_if test (lookup (nat_eq slot) order) → is_some found ≡ true → found ≡ first_at test order (reverse r.slots)
ahead_found order ring test slot steps r found a more is some = by_rest a.rest a.reaches a.same found is some
  where
    by_rest : (rest : List ℕ) → Reaches ring.before.items slot rest → first_at test order rest ≡ first_at test order (reverse r.slots) → (found : Option ℕ)
        → found ≡ pid_if test (lookup (nat_eq slot) order) → is_some found ≡ true →
        found ≡ first_at test order (reverse r.slots)
    by_rest [] reach same found is some = absurd (more reach)
    by_rest (x ∷ rest) reach same None is some = absurd (true≢false (sym some))
    by_rest (x ∷ rest) reach same (Some p) is some =
        let here : pid_if test (lookup (nat_eq x) order) ≡ Some p = sym (is ∙ ap (λ i. pid_if test (lookup (nat_eq i) order)) reach.0) in
        let e : option_or (pid_if test (lookup (nat_eq x) order)) (first_at test order rest) ≡ Some p = rw here refl in sym e ∙ same

-- the slot's pool doesn't pass, and the walk goes on
pub ahead_next : (order : Order) (ring : Ring) (test : Stage → Bool) (slot steps next : ℕ) (r : RingSlots ring) → Ahead order ring test slot steps r
    → slot ≢ 4096 →
    is_some (pid_if test (lookup (nat_eq slot) order)) ≡ false → slice_get ring.before.items slot ≡ Some next → Ahead order ring test next (steps + 1) r
ahead_next order ring test slot steps next r a more none e = by_rest a.rest a.reaches a.below a.few a.same
  where
    is_none : (o : Option ℕ) → is_some o ≡ false → o ≡ None
    is_none None h = refl
    is_none (Some p) h = absurd (true≢false h)

    by_rest : (rest : List ℕ) → Reaches ring.before.items slot rest → AllByRecursion (λ i. i < 4096) rest → length rest + steps ≤ 4096
        → first_at test order rest ≡ first_at test order (reverse r.slots) → Ahead order ring test next (steps + 1) r
    by_rest [] reach below few same = absurd (more reach)
    by_rest (x ∷ rest) reach below few same = record {
      rest = rest;
      reaches = reached ring.before.items slot next rest (subst (λ i. Chain ring.before.items i rest 4096) (sym reach.0) reach.1) e;
      below = below.1;
      few = omega arith;
      same = (let here : pid_if test (lookup (nat_eq x) order) ≡ None = is_none (pid_if test (lookup (nat_eq x) order))
          (subst (λ i. is_some (pid_if test (lookup (nat_eq i) order)) ≡ false) reach.0 none) in
          let k : option_or (pid_if test (lookup (nat_eq x) order)) (first_at test order rest) ≡ first_at test order rest = rw here refl in sym k ∙ same);
    }

-- something stands before the slot
pub ahead_there : (order : Order) (ring : Ring) (test : Stage → Bool) (slot steps : ℕ) (r : RingSlots ring) → Ahead order ring test slot steps r → slot ≢ 4096
    → IsSome (slice_get ring.before.items slot)
ahead_there order ring test slot steps r a more = by_rest a.rest a.reaches
  where
    by_rest : (rest : List ℕ) → Reaches ring.before.items slot rest → IsSome (slice_get ring.before.items slot)
    by_rest [] reach = absurd (more reach)
    by_rest (x ∷ rest) reach = rw (ap (slice_get ring.before.items) reach.0 ∙ chain_first ring.before.items x rest 4096 reach.1) refl
