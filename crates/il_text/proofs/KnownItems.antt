-- What the sets of PIDs and names know, item by item.
use Rattle.std.proofs.Common.{◌≡◌, ℕ, Bool, true, false, List, [], ◌∷◌, ◌++◌, Option, Some, None, length, take, drop, map, refl, sym, ◌∙◌, ap, subst}
use Rattle.std.proofs.Common.{append_assoc, append-nil, inl, inr, add-one, suc, arith}
use Rattle.std.specs.Prelude.{◌==◌, ◌||◌, ◌&&◌, not, cond, slice_index_or, option_map, ◌<◌, ◌≤◌, ◌+◌}
use Rattle.std.specs.BTreeSet.{BTreeSet, contains, Updates}
use Rattle.std.specs.Cmp.{nat_cmp_is}
use Rattle.std.specs.Cmp.Lexicographic.{slice_cmp}
use Rattle.std.specs.List.{list_any}
use Rattle.std.specs.Ordering.{is_eq, nat_cmp}
use Rattle.std.specs.declared.cmp.Ordering.TheVariants.{Less, Equal, Greater}
use Rattle.std.specs.Str.{bytes_eq}
use Rattle.std.proofs.Math.Seq.{drop-cons, take-suc}
use Rattle.std.proofs.lemmas.Bool.{cases_order, eq-eqb, ne_eqb}
use Rattle.std.proofs.lemmas.List.Folds.{list_any-append}
use Rattle.std.proofs.lemmas.Map.Text.{is_eq-slice_cmp}
use denote.Ref.{Bor}
use Rattle.il_text.specs.declared.order.Used.{Used}
use Rattle.il_text.specs.Known.{Knows}
use Rattle.std.proofs.Math.ListN.{drop_of_length-le}
use Rattle.std.proofs.lemmas.List.{map-append, take_all}
use Rattle.il_text.specs.Order.{Item, has_pid, has_name, is_above, is_placed, first_misplaced}

is_eq_nat : (x y : ℕ) → is_eq (nat_cmp x y) ≡ (x == y)
is_eq_nat x y = elim (cases_order x y) [
  | inl e ↦ sym (ap is_eq (nat_cmp_is x y Equal e)) ∙ sym (eq-eqb x y e)
  | inr (inl lt) ↦ sym (ap is_eq (nat_cmp_is x y Less lt)) ∙ sym (ne_eqb x y (λ e. omega (arith, e)))
  | inr (inr gt) ↦ sym (ap is_eq (nat_cmp_is x y Greater gt)) ∙ sym (ne_eqb x y (λ e. omega (arith, e)))
]

cond_or : (a b : Bool) → cond a true b ≡ (b || a)
cond_or true true = refl
cond_or true false = refl
cond_or false true = refl
cond_or false false = refl

or_false : (a b : Bool) → (a || (b || false)) ≡ (a || b)
or_false true b = refl
or_false false true = refl
or_false false false = refl

any_push : {X : Type 0} (p : X → Bool) (xs : List X) (x : X) → list_any p (xs ++ x ∷ []) ≡ (list_any p xs || p x)
any_push p xs x = list_any-append p xs (x ∷ []) ∙ or_false (list_any p xs) (p x)

pub pid_noted : (s n : BTreeSet ℕ) (x : Item) (items : List Item) → Updates nat_cmp s n x.pid true → ((q : ℕ) → contains nat_cmp s q ≡ has_pid items q)
    → (q : ℕ) → contains nat_cmp n q ≡ has_pid (items ++ x ∷ []) q
pid_noted s n x items h k q = h.0 q ∙ cond_or (is_eq (nat_cmp x.pid q)) (contains nat_cmp s q) ∙ ap (λ b. b || is_eq (nat_cmp x.pid q)) (k q) ∙ ap
    (λ b. has_pid items q || b) (is_eq_nat x.pid q) ∙ sym (any_push (λ y. y.pid == q) items x)

pub name_noted : (s n : BTreeSet (Bor (List ℕ))) (key : Bor (List ℕ)) (x : Item) (items : List Item)
    → Updates (λ (x y : Bor (List ℕ)). slice_cmp nat_cmp x.now y.now) s n key true → key.now ≡ x.name
    → ((q : Bor (List ℕ)) → contains (λ (x y : Bor (List ℕ)). slice_cmp nat_cmp x.now y.now) s q ≡ has_name items q.now)
    → (q : Bor (List ℕ)) → contains (λ (x y : Bor (List ℕ)). slice_cmp nat_cmp x.now y.now) n q ≡ has_name (items ++ x ∷ []) q.now
name_noted s n key x items h same k q =
    h.0 q ∙ cond_or (is_eq (slice_cmp nat_cmp key.now q.now)) (contains (λ (x y : Bor (List ℕ)). slice_cmp nat_cmp x.now y.now) s q)
    ∙ ap (λ b. b || is_eq (slice_cmp nat_cmp key.now q.now)) (k q)
    ∙ ap (λ b. has_name items q.now || b) (is_eq-slice_cmp key.now q.now ∙ ap (λ m. bytes_eq m q.now) same)
    ∙ sym (any_push (λ y. bytes_eq y.name q.now) items x)

-- the items of a list up to place k are in order behind others, and noted
pub record IsOrderedSoFar {X : Type 0} (f : X → Item) (used : Used) (before : Option ℕ) (k : ℕ) (items : List Item) (xs : List X) : Type 0 where
  pub knows : Knows used (items ++ map f (take k xs))
  pub rest : first_misplaced items None (map f xs) ≡ option_map (λ n. n + k) (first_misplaced (items ++ map f (take k xs)) before (map f (drop k xs)))

plus_zero : (o : Option ℕ) → o ≡ option_map (λ n. n + 0) o
plus_zero None = refl
plus_zero (Some n) = ap Some (omega arith)

plus_more : (o : Option ℕ) (k : ℕ) → option_map (λ n. n + k) (option_map (λ n. n + 1) o) ≡ option_map (λ n. n + (k + 1)) o
plus_more None k = refl
plus_more (Some n) k = ap Some (omega arith)

pub ordered_start : {X : Type 0} (f : X → Item) (used : Used) (items : List Item) (xs : List X) → Knows used items → IsOrderedSoFar f used None 0 items xs
ordered_start f used items xs h = record {
  knows = subst (Knows used) (sym (append-nil items)) h;
  rest = plus_zero (first_misplaced items None (map f xs)) ∙ ap (λ l. option_map (λ n. n + 0) (first_misplaced l None (map f xs))) (sym (append-nil items));
}

here : {X : Type 0} (xs : List X) (k : ℕ) (x : X) → k < length xs → x ≡ slice_index_or xs k x → drop k xs ≡ x ∷ drop (suc k) xs
here xs k x lt e = drop-cons xs k x lt ∙ ap (λ y. y ∷ drop (suc k) xs) (sym e)

taken : {X : Type 0} (f : X → Item) (items : List Item) (xs : List X) (k : ℕ) (x : X) → k < length xs → x ≡ slice_index_or xs k x
    → (items ++ map f (take k xs)) ++ f x ∷ [] ≡ items ++ map f (take (k + 1) xs)
taken f items xs k x lt e =
    append_assoc items (map f (take k xs)) (f x ∷ []) ∙ ap (λ l. items ++ l) (sym (map-append f (take k xs) (x ∷ []))
    ∙ ap (λ y. map f (take k xs ++ y ∷ [])) e ∙ ap (map f) (sym (take-suc xs k x lt)) ∙ ap (λ n. map f (take n xs)) (sym (add-one k)))

not_placed : (items : List Item) (before : Option ℕ) (x : Item) (xs : List Item) → is_placed items before x ≡ false
    → first_misplaced items before (x ∷ xs) ≡ Some 0
not_placed items before x xs e = rw e refl

placed : (items : List Item) (before : Option ℕ) (x : Item) (xs : List Item) → is_placed items before x ≡ true
    → first_misplaced items before (x ∷ xs) ≡ option_map (λ k. k + 1) (first_misplaced (items ++ x ∷ []) (Some x.pid) xs)
placed items before x xs e = rw e refl

pub ordered_stops : {X : Type 0} (f : X → Item) (used : Used) (before : Option ℕ) (k : ℕ) (items : List Item) (xs : List X) (x : X) (fresh both : Bool)
    → IsOrderedSoFar f used before k items xs → k < length xs → x ≡ slice_index_or xs k x
    → fresh ≡ (not (has_pid (items ++ map f (take k xs)) (f x).pid) && not (has_name (items ++ map f (take k xs)) (f x).name))
    → both ≡ (is_above before (f x).pid && fresh) → both ≡ false
    → Some k ≡ first_misplaced items None (map f xs)
ordered_stops f used before k items xs x fresh both h lt e is test bad =
    let p : is_placed (items ++ map f (take k xs)) before (f x) ≡ false = ap (λ b. is_above before (f x).pid && b) (sym is) ∙ sym test ∙ bad in
    sym (h.rest ∙ ap (λ l. option_map (λ n. n + k) (first_misplaced (items ++ map f (take k xs)) before (map f l))) (here xs k x lt e)
    ∙ ap (option_map (λ n. n + k)) (not_placed (items ++ map f (take k xs)) before (f x) (map f (drop (suc k) xs)) p) ∙ ap Some (omega arith))

pub ordered_goes_on : {X : Type 0} (f : X → Item) (used new : Used) (before : Option ℕ) (k : ℕ) (items : List Item) (xs : List X) (x : X) (fresh both : Bool)
    → IsOrderedSoFar f used before k items xs → k < length xs → x ≡ slice_index_or xs k x
    → fresh ≡ (not (has_pid (items ++ map f (take k xs)) (f x).pid) && not (has_name (items ++ map f (take k xs)) (f x).name))
    → both ≡ (is_above before (f x).pid && fresh) → both ≡ true
    → Knows new ((items ++ map f (take k xs)) ++ f x ∷ []) → IsOrderedSoFar f new (Some (f x).pid) (k + 1) items xs
ordered_goes_on f used new before k items xs x fresh both h lt e is test fine knows =
    let p : is_placed (items ++ map f (take k xs)) before (f x) ≡ true = ap (λ b. is_above before (f x).pid && b) (sym is) ∙ sym test ∙ fine in
    let t = taken f items xs k x lt e in
    record {
      knows = subst (Knows new) t knows;
      rest = h.rest ∙ ap (λ l. option_map (λ n. n + k) (first_misplaced (items ++ map f (take k xs)) before (map f l))) (here xs k x lt e)
          ∙ ap (option_map (λ n. n + k)) (placed (items ++ map f (take k xs)) before (f x) (map f (drop (suc k) xs)) p)
          ∙ plus_more (first_misplaced ((items ++ map f (take k xs)) ++ f x ∷ []) (Some (f x).pid) (map f (drop (suc k) xs))) k
          ∙ ap (λ l. option_map (λ n. n + (k + 1)) (first_misplaced l (Some (f x).pid) (map f (drop (suc k) xs)))) t
          ∙ ap (λ m. option_map (λ n. n + (k + 1)) (first_misplaced (items ++ map f (take (k + 1) xs)) (Some (f x).pid) (map f (drop m xs)))) (sym (add-one k));
    }

pub ordered_none : {X : Type 0} (f : X → Item) (used : Used) (before : Option ℕ) (k : ℕ) (items : List Item) (xs : List X)
    → IsOrderedSoFar f used before k items xs → length xs ≤ k → None ≡ first_misplaced items None (map f xs)
ordered_none f used before k items xs h le = sym (h.rest ∙ ap (λ l. option_map (λ n. n + k) (first_misplaced (items ++ map f (take k xs)) before (map f l)))
    (drop_of_length-le xs le))

pub ordered_knows : {X : Type 0} (f : X → Item) (used : Used) (before : Option ℕ) (k : ℕ) (items : List Item) (xs : List X)
    → IsOrderedSoFar f used before k items xs → length xs ≤ k → Knows used (items ++ map f xs)
ordered_knows f used before k items xs h le = subst (λ l. Knows used (items ++ map f l)) (take_all k xs le) h.knows
