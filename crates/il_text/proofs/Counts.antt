-- Numbers and names that stand once in a list.
use Rattle.std.proofs.Common.{◌≡◌, ◌≢◌, ℕ, suc, ◌+◌, ◌≤◌, Bool, true, false, List, [], ◌∷◌, ◌++◌, Option, Some, None, map, refl, sym, ◌∙◌, ap, subst}
use Rattle.std.proofs.Common.{inl, inr, arith}
use Rattle.std.specs.Prelude.{◌==◌, ◌||◌, ◌&&◌, not, if◌then◌else◌, sum_by, option_map}
use Rattle.std.specs.List.{AllByRecursion, list_any}
use Rattle.std.specs.List.Sorted.{IsPermutation, IsNonDecreasingBy}
use Rattle.std.specs.Str.{bytes_eq}
use Rattle.std.proofs.lemmas.Bool.{cases_Bool, eqb-true, eq-eqb, and_parts, not-true, true≢false}
use Rattle.std.proofs.lemmas.List.Folds.{list_any-append}
use Rattle.std.proofs.lemmas.List.Sorted.{sum_by-IsPermutation}
use Rattle.std.proofs.lemmas.List.Sums.{sum_by-append, sum_by-cons}
use Rattle.std.proofs.lemmas.Slice.Eq.{bytes_eq-Decides}
use Rattle.il_core.specs.declared.shape.ShapeRow.{ShapeRow}
use Rattle.il_core.specs.Shapes.{IsRising}
use Rattle.il_core.specs.Valid.{HasEachNameOnce}
use Rattle.il_text.specs.declared.line.NamedObject.{NamedObject}
use Rattle.il_text.specs.declared.line.NamedRoutine.{NamedRoutine}
use Rattle.il_text.specs.Assembled.{object_row, routine_row, all_rows, or_else, first_out_of_order}
use Rattle.il_text.specs.Order.{Item, object_item, object_items, routine_item, routine_items, has_pid, has_name, is_above, is_placed, first_misplaced}

-- how many pass a test
count : {X : Type 0} → (X → Bool) → List X → ℕ
count t xs = sum_by (λ x. if t x then 1 else 0) xs

count_cons : {X : Type 0} (t : X → Bool) (x : X) (xs : List X) → count t (x ∷ xs) ≡ (if t x then 1 else 0) + count t xs
unfolding count
count_cons t x xs = sum_by-cons (λ y. if t y then 1 else 0) x xs

count_append : {X : Type 0} (t : X → Bool) (xs ys : List X) → count t (xs ++ ys) ≡ count t xs + count t ys
unfolding count
count_append t xs ys = sum_by-append (λ y. if t y then 1 else 0) xs ys

count_moved : {X : Type 0} (t : X → Bool) (xs ys : List X) → IsPermutation xs ys → count t ys ≡ count t xs
unfolding count
count_moved t xs ys h = sum_by-IsPermutation (λ y. if t y then 1 else 0) xs ys h

count_none : {X : Type 0} (t : X → Bool) → count t [] ≡ 0
unfolding count
count_none t = refl

count_in : {X : Type 0} (t : X → Bool) (x : X) (xs : List X) → t x ≡ true → count t (x ∷ xs) ≡ 1 + count t xs
count_in t x xs e = count_cons t x xs ∙ rw e refl

count_out : {X : Type 0} (t : X → Bool) (x : X) (xs : List X) → t x ≡ false → count t (x ∷ xs) ≡ count t xs
count_out t x xs e = count_cons t x xs ∙ rw e (omega arith)

count_map : {X Y : Type 0} (f : X → Y) (t : Y → Bool) (xs : List X) → count t (map f xs) ≡ count (λ x. t (f x)) xs
count_map f t [] = count_none t ∙ sym (count_none (λ x. t (f x)))
count_map f t (x ∷ xs) = count_cons t (f x) (map f xs) ∙ ap (λ n. (if t (f x) then 1 else 0) + n) (count_map f t xs) ∙ sym (count_cons (λ y. t (f y)) x xs)

or_true : (b : Bool) → (b || true) ≡ true
or_true true = refl
or_true false = refl

pub same_bytes : (xs ys : List ℕ) → bytes_eq xs ys ≡ true → xs ≡ ys
same_bytes xs ys e = (bytes_eq-Decides xs ys).0 e

-- A test that an item brings to what was used: a PID or a name.
pub record IsTest (t : Item → Bool) : Type 0 where
  pub used : (used : List Item) (before : Option ℕ) (x : Item) → is_placed used before x ≡ true → t x ≡ true → list_any t used ≡ false

any_push_true : (t : Item → Bool) (xs : List Item) (x : Item) → t x ≡ true → list_any t (xs ++ x ∷ []) ≡ true
any_push_true t xs x e = list_any-append t xs (x ∷ []) ∙ rw e (or_true (list_any t xs))

any_kept : (t : Item → Bool) (xs : List Item) (x : Item) → list_any t xs ≡ true → list_any t (xs ++ x ∷ []) ≡ true
any_kept t xs x e = list_any-append t xs (x ∷ []) ∙ rw e refl

mapped_none : (o : Option ℕ) → option_map (λ k. k + 1) o ≡ None → o ≡ None
mapped_none None e = refl
mapped_none (Some n) e = absurd cc

pub placed_head : (used : List Item) (before : Option ℕ) (x : Item) (xs : List Item) → first_misplaced used before (x ∷ xs) ≡ None
    → (is_placed used before x ≡ true) × (first_misplaced (used ++ x ∷ []) (Some x.pid) xs ≡ None)
placed_head used before x xs e = elim (cases_Bool (is_placed used before x)) [
  | inl is ↦ (is, mapped_none (first_misplaced (used ++ x ∷ []) (Some x.pid) xs) (rw is at e))
  | inr misses ↦ let s : Some 0 ≡ None = rw misses at e in absurd (cc s)
]

-- of items in order, a test that was used passes none, and any test passes one at most
once : (t : Item → Bool) → IsTest t → (used : List Item) (before : Option ℕ) (xs : List Item) → first_misplaced used before xs ≡ None
    → (list_any t used ≡ true → count t xs ≡ 0) × (count t xs ≤ 1)
once t test used before [] e = ((λ u. count_none t), (omega (arith, count_none t)))
once t test used before (x ∷ xs) e =
    let h = placed_head used before x xs e in
    let r = once t test (used ++ x ∷ []) (Some x.pid) xs h.1 in
    elim (cases_Bool (t x)) [
      | inl is ↦
          let none = r.0 (any_push_true t used x is) in
          ((λ u. absurd (true≢false (sym u ∙ test.used used before x h.0 is))), omega (arith, count_in t x xs is, none))
      | inr misses ↦ ((λ u. count_out t x xs misses ∙ r.0 (any_kept t used x u)), omega (arith, count_out t x xs misses, r.1))
    ]

pid_test : (q : ℕ) → IsTest (λ y. y.pid == q)
pid_test q = record {
  used = λ used before x placed is.
      let a = and_parts (is_above before x.pid) (not (has_pid used x.pid) && not (has_name used x.name)) placed in
      let b = and_parts (not (has_pid used x.pid)) (not (has_name used x.name)) a.1 in
      subst (λ p. has_pid used p ≡ false) (eqb-true x.pid q is) (not-true (has_pid used x.pid) b.0);
}

name_test : (q : List ℕ) → IsTest (λ y. bytes_eq y.name q)
name_test q = record {
  used = λ used before x placed is.
      let a = and_parts (is_above before x.pid) (not (has_pid used x.pid) && not (has_name used x.name)) placed in
      let b = and_parts (not (has_pid used x.pid)) (not (has_name used x.name)) a.1 in
      subst (λ p. has_name used p ≡ false) (same_bytes x.name q is) (not-true (has_name used x.name) b.1);
}

split : (a b : Option ℕ) → or_else a b ≡ None → (a ≡ None) × (b ≡ None)
split None b e = (refl, e)
split (Some k) b e = absurd cc

-- objects and routines that are in order, apart
pub object_part : (os : List NamedObject) (rs : List NamedRoutine) → first_out_of_order os rs ≡ None
    → (first_misplaced [] None (object_items os) ≡ None) × (first_misplaced (object_items os) None (routine_items rs) ≡ None)
object_part os rs e = split (first_misplaced [] None (object_items os)) (first_misplaced (object_items os) None (routine_items rs)) e

any_zero : (t : Item → Bool) (xs : List Item) → list_any t xs ≡ false → count t xs ≡ 0
any_zero t [] e = count_none t
any_zero t (x ∷ xs) e = elim (cases_Bool (t x)) [
  | inl is ↦ let s : true ≡ false = rw is at e in absurd (cc s)
  | inr misses ↦ count_out t x xs misses ∙ any_zero t xs (rw misses at e)
]

-- a test passes one at most of all items
all_once : (t : Item → Bool) → IsTest t → (os : List NamedObject) (rs : List NamedRoutine) → first_out_of_order os rs ≡ None
    → count t (object_items os) + count t (routine_items rs) ≤ 1
all_once t test os rs e =
    let p = object_part os rs e in
    let a = once t test [] None (object_items os) p.0 in
    let b = once t test (object_items os) None (routine_items rs) p.1 in
    elim (cases_Bool (list_any t (object_items os))) [
      | inl is ↦ let none = b.0 is in omega (arith, none, a.1)
      | inr misses ↦ let none = any_zero t (object_items os) misses in omega (arith, none, b.1)
    ]

rows_pids : (q : ℕ) (os : List NamedObject) (rs : List NamedRoutine) → first_out_of_order os rs ≡ None
    → count (λ (r : ShapeRow). r.pid == q) (all_rows os rs) ≤ 1
rows_pids q os rs e =
    let t = λ (y : Item). y.pid == q in
    let a = count_append (λ (r : ShapeRow). r.pid == q) (map object_row os) (map routine_row rs) in
    let b = count_map object_row (λ (r : ShapeRow). r.pid == q) os ∙ sym (count_map object_item t os) in
    let c = count_map routine_row (λ (r : ShapeRow). r.pid == q) rs ∙ sym (count_map routine_item t rs) in
    omega (arith, a, b, c, all_once t (pid_test q) os rs e)

rows_names : (q : List ℕ) (os : List NamedObject) (rs : List NamedRoutine) → first_out_of_order os rs ≡ None
    → count (λ (r : ShapeRow). bytes_eq r.name q) (all_rows os rs) ≤ 1
rows_names q os rs e =
    let t = λ (y : Item). bytes_eq y.name q in
    let a = count_append (λ (r : ShapeRow). bytes_eq r.name q) (map object_row os) (map routine_row rs) in
    let b = count_map object_row (λ (r : ShapeRow). bytes_eq r.name q) os ∙ sym (count_map object_item t os) in
    let c = count_map routine_row (λ (r : ShapeRow). bytes_eq r.name q) rs ∙ sym (count_map routine_item t rs) in
    omega (arith, a, b, c, all_once t (name_test q) os rs e)

rest_once : (x : ShapeRow) (rows : List ShapeRow) → ((q : ℕ) → count (λ (r : ShapeRow). r.pid == q) (x ∷ rows) ≤ 1) → (q : ℕ)
    → count (λ (r : ShapeRow). r.pid == q) rows ≤ 1
rest_once x rows k q = let c = count_cons (λ (r : ShapeRow). r.pid == q) x rows in omega (arith, c, k q)

differ : (x y : ShapeRow) (ys : List ShapeRow) → ((q : ℕ) → count (λ (r : ShapeRow). r.pid == q) (x ∷ y ∷ ys) ≤ 1) → x.pid ≢ y.pid
differ x y ys k e =
    let one = count_in (λ (r : ShapeRow). r.pid == x.pid) x (y ∷ ys) (eq-eqb x.pid x.pid refl) in
    let two = count_in (λ (r : ShapeRow). r.pid == x.pid) y ys (eq-eqb y.pid x.pid (sym e)) in
    omega (arith, one, two, k x.pid)

rises : (rows : List ShapeRow) → IsNonDecreasingBy (λ r. r.pid) rows → ((q : ℕ) → count (λ (r : ShapeRow). r.pid == q) rows ≤ 1) → IsRising (λ r. r.pid) rows
rises [] h k = tt
rises (x ∷ []) h k = tt
rises (x ∷ y ∷ ys) h k =
    let le : x.pid ≤ y.pid = h 0 1 x (omega arith) (omega arith) in
    (omega (arith, le, differ x y ys k), rises (y ∷ ys) (λ i j d a b. h (suc i) (suc j) d (omega arith) (omega arith)) (rest_once x (y ∷ ys) k))

pub rows_rise : (os : List NamedObject) (rs : List NamedRoutine) (rows : List ShapeRow) → first_out_of_order os rs ≡ None → IsPermutation (all_rows os rs) rows
    → IsNonDecreasingBy (λ r. r.pid) rows → IsRising (λ r. r.pid) rows
rows_rise os rs rows e h k = rises rows k (λ q. let m = count_moved (λ (r : ShapeRow). r.pid == q) (all_rows os rs) rows h
    in omega (arith, m, rows_pids q os rs e))

-- where none passes, each fails
none_pass : {X : Type 0} (t : X → Bool) (xs : List X) → count t xs ≡ 0 → AllByRecursion (λ x. t x ≡ false) xs
none_pass t [] e = tt
none_pass t (x ∷ xs) e = elim (cases_Bool (t x)) [
  | inl is ↦ let c = count_in t x xs is in absurd (omega (arith, c, e))
  | inr misses ↦ (misses, none_pass t xs (sym (count_out t x xs misses) ∙ e))
]

other_names : (name : List ℕ) (rows : List ShapeRow) → AllByRecursion (λ (r : ShapeRow). bytes_eq r.name name ≡ false) rows
    → AllByRecursion (λ (r : ShapeRow). r.name ≢ name) rows
other_names name [] h = tt
other_names name (r ∷ rows) h = ((λ e. absurd (true≢false (sym ((bytes_eq-Decides r.name name).1 e) ∙ h.0))), other_names name rows h.1)

names_once : (rows : List ShapeRow) → ((q : List ℕ) → count (λ (r : ShapeRow). bytes_eq r.name q) rows ≤ 1) → HasEachNameOnce rows
names_once [] k = tt
names_once (row ∷ rows) k =
    let c = count_in (λ (r : ShapeRow). bytes_eq r.name row.name) row rows ((bytes_eq-Decides row.name row.name).1 refl) in (
      other_names row.name rows (none_pass (λ (r : ShapeRow). bytes_eq r.name row.name) rows (omega (arith, c, k row.name))),
      names_once rows (λ q. let d = count_cons (λ (r : ShapeRow). bytes_eq r.name q) row rows in omega (arith, d, k q)),
    )

pub rows_names_once : (os : List NamedObject) (rs : List NamedRoutine) (rows : List ShapeRow) → first_out_of_order os rs ≡ None
    → IsPermutation (all_rows os rs) rows → HasEachNameOnce rows
rows_names_once os rs rows e h = names_once rows (λ q. let m = count_moved (λ (r : ShapeRow). bytes_eq r.name q) (all_rows os rs) rows h
    in omega (arith, m, rows_names q os rs e))

all_fail : {X : Type 0} (t : X → Bool) (xs : List X) → AllByRecursion (λ x. t x ≡ false) xs → count t xs ≡ 0
all_fail t [] h = count_none t
all_fail t (x ∷ xs) h = count_out t x xs h.0 ∙ all_fail t xs h.1

-- what holds of each row holds of them in another order
pub each_moved : (t : ShapeRow → Bool) (os : List NamedObject) (rs : List NamedRoutine) (rows : List ShapeRow) → IsPermutation (all_rows os rs) rows
    → AllByRecursion (λ o. t (object_row o) ≡ false) os → AllByRecursion (λ r. t (routine_row r) ≡ false) rs → AllByRecursion (λ x. t x ≡ false) rows
each_moved t os rs rows h a b = none_pass t rows
    (count_moved t (all_rows os rs) rows h ∙ count_append t (map object_row os) (map routine_row rs)
    ∙ ap (λ n. n + count t (map routine_row rs)) (count_map object_row t os ∙ all_fail (λ o. t (object_row o)) os a)
    ∙ ap (λ n. 0 + n) (count_map routine_row t rs ∙ all_fail (λ r. t (routine_row r)) rs b))
