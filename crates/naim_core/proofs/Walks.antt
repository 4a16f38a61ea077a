-- The pools met on a walk over the slots.
use Rattle.std.proofs.Common.{◌≡◌, ℕ, Bool, true, false, cond, nat_eq, List, [], ◌∷◌, ◌++◌, reverse, find, Option, Some, None, refl, sym}
use Rattle.std.proofs.Common.{ap, subst, ◌∙◌, append_assoc}
use Rattle.std.specs.List.{IsDistinct, AllByRecursion}
use Rattle.std.specs.Bool.{then_some}
use Rattle.std.specs.Cmp.{nat_eq_equiv}
use Rattle.std.specs.Option.{option_or, option_map}
use Rattle.std.specs.Map.{keys_of, lookup}
use Rattle.std.proofs.lemmas.List.{reverse-append}
use Rattle.std.proofs.lemmas.List.Elements.{filter_map-append}
use Rattle.std.proofs.lemmas.List.Folds.{find-append}
use Rattle.std.proofs.lemmas.Map.Keys.{IsDistinct-head, IsDistinct-tail}
use Rattle.naim_core.specs.State.{is_free, is_compacted, victim}
use Rattle.naim_core.specs.Table.{Place, Order, pools_in}
use Rattle.naim_core.specs.declared.pool.Pool.{Pool}
use Rattle.naim_core.specs.declared.pool.Stage.{Stage}
use Rattle.list_laws.proofs.Entries.{number_itself}

-- the last pool at a stage that passes, with one more pool before the others
pub last_more : (p : Stage → Bool) (e : ℕ × Pool) (tail : List (ℕ × Pool))
    → find (λ x. p x.1.stage) (reverse (e ∷ tail)) ≡ option_or (find (λ x. p x.1.stage) (reverse tail)) (cond (p e.1.stage) (Some e) None)
last_more p e tail = ap (find (λ x. p x.1.stage)) (reverse-append (e ∷ []) tail) ∙ find-append (λ x. p x.1.stage) (reverse tail) (e ∷ [])

-- the free pool that has none behind it is the victim
pub free_is_victim : (front : List (ℕ × Pool)) (e : ℕ × Pool) (tail : List (ℕ × Pool)) → find (λ x. is_free x.1.stage) (reverse tail) ≡ None
    → is_free e.1.stage ≡ true → victim (front ++ e ∷ tail) ≡ Some e.0
free_is_victim front e tail none free =
    let a = ap (find (λ x. is_free x.1.stage)) (reverse-append front (e ∷ tail)) ∙ find-append (λ x. is_free x.1.stage) (reverse (e ∷ tail)) (reverse front) in
    let b = last_more is_free e tail in
    let c : find (λ x. is_free x.1.stage) (reverse (e ∷ tail)) ≡ Some e = rw (none, free) at b in
    let d : find (λ x. is_free x.1.stage) (reverse (front ++ e ∷ tail)) ≡ Some e = rw c at a in rw d

-- the pools with one more slot at the end
pub pools_push : (es : Order) (i : ℕ) (place : Place) → pools_in (es ++ (i, place) ∷ []) ≡ pools_in es ++ pools_in ((i, place) ∷ [])
pools_push es i place = filter_map-append (λ entry. entry.1) es ((i, place) ∷ [])

all_at_end : (P : ℕ → Type 0) (i : ℕ) (v : Place) (front tail : Order) → AllByRecursion P (keys_of (front ++ (i, v) ∷ tail)) → P i
all_at_end P i v [] tail h = h.0
all_at_end P i v (e ∷ front) tail h = all_at_end P i v front tail h.1

-- a slot that stands once is found where it stands
pub lookup_here : (i : ℕ) (v : Place) (front tail : Order) → IsDistinct nat_eq (keys_of (front ++ (i, v) ∷ tail))
    → lookup (nat_eq i) (front ++ (i, v) ∷ tail) ≡ Some v
lookup_here i v [] tail d = rw (number_itself i)
lookup_here i v (e ∷ front) tail d =
    let ne = all_at_end (λ y. nat_eq e.0 y ≡ false) i v front tail (IsDistinct-head nat_eq e.0 (keys_of (front ++ (i, v) ∷ tail)) d) in
    let ne' : nat_eq i e.0 ≡ false = nat_eq_equiv.symm i e.0 ∙ ne in
    rw ne' (lookup_here i v front tail (IsDistinct-tail nat_eq e.0 (keys_of (front ++ (i, v) ∷ tail)) d))

pub lookup_push : (p : ℕ) (ps qs : List (ℕ × Pool)) → lookup (nat_eq p) ps ≡ None → lookup (nat_eq p) (ps ++ qs) ≡ lookup (nat_eq p) qs
lookup_push p [] qs h = refl
lookup_push p (e ∷ ps) qs h = (elim (nat_eq p e.0) as (λ b. nat_eq p e.0 ≡ b → lookup (nat_eq p) ((e ∷ ps) ++ qs) ≡ lookup (nat_eq p) qs) [
  | true ↦ λ t. let k = rw t at h in cc
  | false ↦ λ t. rw t (lookup_push p ps qs (rw t at h))
]) refl

-- what has been met, after one more slot from the end
pub back_step : (self : List (ℕ × Pool)) (iter new : Order) (i : ℕ) (place : Place) (tail : List (ℕ × Pool)) → self ≡ pools_in iter ++ tail
    → iter ≡ new ++ (i, place) ∷ [] → self ≡ pools_in new ++ (pools_in ((i, place) ∷ []) ++ tail)
back_step self iter new i place tail e f = e ∙ ap (λ l. pools_in l ++ tail) f ∙ ap (λ l. l ++ tail) (pools_push new i place) ∙ append_assoc (pools_in new)
    (pools_in ((i, place) ∷ [])) tail

option_case : (o : Option (ℕ × Pool)) (b : Bool) (e : ℕ × Pool)
    → option_or (option_map (λ x. x.0) o) (then_some b e.0) ≡ option_map (λ x. x.0) (option_or o (cond b (Some e) None))
option_case None true e = refl
option_case None false e = refl
option_case (Some x) b e = refl

-- the last compacted pool, with one more pool before the others
pub compacted_more : (c : Option ℕ) (e : ℕ × Pool) (tail : List (ℕ × Pool)) → c ≡ option_map (λ x. x.0) (find (λ x. is_compacted x.1.stage) (reverse tail)) →
    option_or c (then_some (is_compacted e.1.stage) e.0) ≡ option_map (λ x. x.0) (find (λ x. is_compacted x.1.stage) (reverse (e ∷ tail)))
compacted_more c e tail h = ap (λ o. option_or o (then_some (is_compacted e.1.stage) e.0)) h
    ∙ option_case (find (λ x. is_compacted x.1.stage) (reverse tail)) (is_compacted e.1.stage) e ∙ ap (option_map (λ x. x.0))
    (sym (last_more is_compacted e tail))

-- no free pool, with one more before the others that is not free
pub free_more : (e : ℕ × Pool) (tail : List (ℕ × Pool)) → find (λ x. is_free x.1.stage) (reverse tail) ≡ None → is_free e.1.stage ≡ false
    → find (λ x. is_free x.1.stage) (reverse (e ∷ tail)) ≡ None
free_more e tail none held = let b = last_more is_free e tail in rw (none, held) at b

-- the slots met from the front, with one more
pub front_step : (order front iter new : Order) (i : ℕ) (place : Place) → order ≡ front ++ iter → iter ≡ (i, place) ∷ new
    → order ≡ (front ++ (i, place) ∷ []) ++ new
front_step order front iter new i place e f = e ∙ ap (λ l. front ++ l) f ∙ sym (append_assoc front ((i, place) ∷ []) new)

pub none_pushed : (p : ℕ) (front : Order) (i : ℕ) (place : Place) → lookup (nat_eq p) (pools_in front) ≡ None
    → lookup (nat_eq p) (pools_in ((i, place) ∷ [])) ≡ None → lookup (nat_eq p) (pools_in (front ++ (i, place) ∷ [])) ≡ None
none_pushed p front i place h k = ap (λ l. lookup (nat_eq p) l) (pools_push front i place) ∙ lookup_push p (pools_in front) (pools_in ((i, place) ∷ [])) h ∙ k

pub slot_here : (order front iter new : Order) (i : ℕ) (place : Place) → IsDistinct nat_eq (keys_of order) → order ≡ front ++ iter → iter ≡ (i, place) ∷ new
    → lookup (nat_eq i) order ≡ Some place
slot_here order front iter new i place d e f = let k = e ∙ ap (λ l. front ++ l) f in
    ap (λ l. lookup (nat_eq i) l) k ∙ lookup_here i place front new (subst (λ l. IsDistinct nat_eq (keys_of l)) k d)
