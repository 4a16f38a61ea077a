-- A list in order is the only one with its elements, where elements of one rank are equal.
use Rattle.std.proofs.Common.{◌≡◌, ℕ, suc, ◌+◌, ◌<◌, ◌≤◌, ◌⊎◌, inl, inr, List, [], ◌∷◌, Bool, true, false, refl, ap, ap₂, sym, ◌∙◌, arith, length}
use Rattle.std.proofs.Common.{eqb-true, eq-eqb, ltb-true, lt-ltb, ltb-false}
use Rattle.std.specs.Prelude.{nat_eq, nat_lt, if◌then◌else◌, sum_by, get_or, ⊤}
use Rattle.std.specs.List.{AllByRecursion}
use Rattle.std.specs.List.Sorted.{IsPermutation, IsSortedBy}
use Rattle.std.specs.Cmp.{IsStrictWeakOrder}
use Rattle.std.proofs.lemmas.List.Sorted.{sorted_far, sum_by-IsPermutation}
use Rattle.std.proofs.lemmas.List.Sums.{sum_by-cons}
use Rattle.il_laws.specs.Edges.{one_if}
use Rattle.il_laws.proofs.Grown.{all_to}
use Rattle.plan_laws.specs.Orders.{inserted, sorted, less_or}

-- by two numbers and then by something else
less_is : (m n : ℕ) (o : Bool) → m < n → less_or m n o ≡ true
less_is m n o lt = ap (λ (b : Bool). if b then true else (if nat_eq m n then o else false)) (lt-ltb m n lt)

not_less : (m n : ℕ) → n ≤ m → nat_lt m n ≡ false
not_less m n le = by_test (nat_lt m n) refl
  where
    by_test : (b : Bool) → nat_lt m n ≡ b → b ≡ false
    by_test true e = let lt = ltb-true m n e in absurd (omega arith)
    by_test false e = refl

same_is : (m n : ℕ) (o : Bool) → m ≡ n → less_or m n o ≡ o
same_is m n o e =
    ap (λ (b : Bool). if b then true else (if nat_eq m n then o else false)) (not_less m n (omega arith))
    ∙ ap (λ (b : Bool). if b then o else false) (eq-eqb m n e)

more_is : (m n : ℕ) (o : Bool) → n < m → less_or m n o ≡ false
more_is m n o lt =
    ap (λ (b : Bool). if b then true else (if nat_eq m n then o else false)) (not_less m n (omega arith)) ∙ ap (λ (b : Bool). if b then o else false) differs
  where
    by_test : (b : Bool) → nat_eq m n ≡ b → b ≡ false
    by_test true e = let same = eqb-true m n e in absurd (omega arith)
    by_test false e = refl

    differs : nat_eq m n ≡ false
    differs = by_test (nat_eq m n) refl

-- how two numbers stand to each other
three_ways : (m n : ℕ) → (m < n) ⊎ ((m ≡ n) ⊎ (n < m))
three_ways m n = by_less (nat_lt m n) refl
  where
    by_same : (b : Bool) → nat_eq m n ≡ b → nat_lt m n ≡ false → (m < n) ⊎ ((m ≡ n) ⊎ (n < m))
    by_same true e g = inr (inl (eqb-true m n e))
    by_same false e g =
        let le : n ≤ m = ltb-false m n g in
        inr (inr (above le (λ same. (let bad : true ≡ false = sym (eq-eqb m n same) ∙ e in absurd cc))))
      where
        above : n ≤ m → (m ≡ n → ⊥) → n < m
        above le ne = omega arith

    by_less : (b : Bool) → nat_lt m n ≡ b → (m < n) ⊎ ((m ≡ n) ⊎ (n < m))
    by_less true e = inl (ltb-true m n e)
    by_less false e = by_same (nat_eq m n) refl e

pub less_one_way : (m n : ℕ) (o o1 : Bool) → (o ≡ true → o1 ≡ false) → less_or m n o ≡ true → less_or n m o1 ≡ false
less_one_way m n o o1 h e =
    elim (three_ways m n) [
      | inl lt ↦ more_is n m o1 lt
      | inr rest ↦ (elim rest [
        | inl same ↦ same_is n m o1 (sym same) ∙ h (sym (same_is m n o same) ∙ e)
        | inr gt ↦ (let bad : false ≡ true = sym (more_is m n o gt) ∙ e in absurd cc)
      ])
    ]

-- not less: greater, or the same and not less by the rest
pub record NotLess (m n : ℕ) (o : Bool) : Type 0 where
  pub le : n ≤ m
  pub rest : m ≡ n → o ≡ false

pub not_less_is : (m n : ℕ) (o : Bool) → less_or m n o ≡ false → NotLess m n o
not_less_is m n o e =
    elim (three_ways m n) [
      | inl lt ↦ (let bad : true ≡ false = sym (less_is m n o lt) ∙ e in absurd cc)
      | inr rest ↦ (elim rest [
        | inl same ↦ record { le = omega arith; rest = λ eq. sym (same_is m n o eq) ∙ e }
        | inr gt ↦ record { le = omega arith; rest = λ eq. absurd (omega arith) }
      ])
    ]

pub less_chain : (l m n : ℕ) (o p q : Bool) → (o ≡ false → p ≡ false → q ≡ false) → less_or l m o ≡ false → less_or m n p ≡ false → less_or l n q ≡ false
less_chain l m n o p q h e g =
    let a = not_less_is l m o e in
    let b = not_less_is m n p g in
    let one = a.le in
    let two = b.le in
    elim (three_ways l n) [
      | inl lt ↦ absurd (omega arith)
      | inr rest ↦ (elim rest [
        | inl same ↦ same_is l n q same ∙ h (a.rest (omega arith)) (b.rest (omega arith))
        | inr gt ↦ more_is l n q gt
      ])
    ]

pub record Tie (m n : ℕ) (o o1 : Bool) : Type 0 where
  pub same : m ≡ n
  pub one : o ≡ false
  pub other : o1 ≡ false

pub less_tie : (m n : ℕ) (o o1 : Bool) → less_or m n o ≡ false → less_or n m o1 ≡ false → Tie m n o o1
less_tie m n o o1 e g =
    let a = not_less_is m n o e in
    let b = not_less_is n m o1 g in
    let one = a.le in
    let two = b.le in
    record { same = omega arith; one = a.rest (omega arith); other = b.rest (omega arith) }

-- sums over two lists are the same
abbrev SameSums : {X : Type 0} → List X → List X → Type 0
SameSums {X} xs ys = (f : X → ℕ) → sum_by f xs ≡ sum_by f ys

module _ {X : Type 0} (before : X → X → Bool) (order : IsStrictWeakOrder before) where
  -- none comes before one that stands earlier
  abbrev pub Up : List X → Type 0
  Up [] = ⊤
  Up (x ∷ xs) = AllByRecursion (λ y. before y x ≡ false) xs × Up xs

  insert_if : (b : Bool) (x y : X) (ys zs : List X) → before y x ≡ b → AllByRecursion (λ z. before z y ≡ false) ys × Up ys
      → (before x y ≡ false → AllByRecursion (λ z. before z y ≡ false) zs) → Up zs → Up (if b then y ∷ zs else x ∷ y ∷ ys)
  insert_if true x y ys zs e up all upz = (all (order.one_way y x e), upz)
  insert_if false x y ys zs e up all upz =
      ((e, all_to (λ (z : X). before z y ≡ false) (λ z. before z x ≡ false) ys (λ z h. order.chain z y x h e) up.0), up)

  insert_all : (P : X → Type 0) (x : X) (ys : List X) → P x → AllByRecursion P ys → AllByRecursion P (inserted before x ys)
  insert_all P x [] hx h = (hx, tt)
  insert_all P x (y ∷ ys) hx h = all_if (before y x) (inserted before x ys) (insert_all P x ys hx h.1)
    where
      all_if : (b : Bool) (zs : List X) → AllByRecursion P zs → AllByRecursion P (if b then y ∷ zs else x ∷ y ∷ ys)
      all_if true zs g = (h.0, g)
      all_if false zs g = (hx, h)

  insert_up : (x : X) (ys : List X) → Up ys → Up (inserted before x ys)
  insert_up x [] up = (tt, tt)
  insert_up x (y ∷ ys) up =
      insert_if (before y x) x y ys (inserted before x ys) refl up (λ e. insert_all (λ z. before z y ≡ false) x ys e up.0) (insert_up x ys up.1)

  sorted_up : (xs : List X) → Up (sorted before xs)
  sorted_up [] = tt
  sorted_up (x ∷ xs) = insert_up x (sorted before xs) (sorted_up xs)

  sum_if : (f : X → ℕ) (b : Bool) (x y : X) (ys zs : List X) → sum_by f zs ≡ f x + sum_by f ys
      → sum_by f (if b then y ∷ zs else x ∷ y ∷ ys) ≡ f x + (f y + sum_by f ys)
  sum_if f true x y ys zs e = let a = sum_by-cons f y zs in omega arith
  sum_if f false x y ys zs e = let a = sum_by-cons f x (y ∷ ys) in let b = sum_by-cons f y ys in omega arith

  insert_sum : (f : X → ℕ) (x : X) (ys : List X) → sum_by f (inserted before x ys) ≡ f x + sum_by f ys
  insert_sum f x [] = sum_by-cons f x []
  insert_sum f x (y ∷ ys) =
      let a = sum_if f (before y x) x y ys (inserted before x ys) (insert_sum f x ys) in
      let b = sum_by-cons f y ys in
      omega arith

  sorted_sum : (xs : List X) → SameSums (sorted before xs) xs
  sorted_sum [] f = refl
  sorted_sum (x ∷ xs) f =
      let a = insert_sum f x (sorted before xs) in
      let b = sum_by-cons f x xs in
      let c = sorted_sum xs f in
      omega arith

  -- what a test says of each element of one list it says of each of another with the same sums
  none_zero : (t : X → Bool) (xs : List X) → AllByRecursion (λ x. t x ≡ false) xs → sum_by (λ x. one_if (t x)) xs ≡ 0
  none_zero t [] h = refl
  none_zero t (x ∷ xs) h =
      let a = sum_by-cons (λ (z : X). one_if (t z)) x xs in
      let b = ap one_if h.0 in
      let c = none_zero t xs h.1 in
      omega arith

  zero_false : (b : Bool) (n : ℕ) → one_if b + n ≡ 0 → b ≡ false
  zero_false true n e = absurd (omega arith)
  zero_false false n e = refl

  zero_none : (t : X → Bool) (xs : List X) → sum_by (λ x. one_if (t x)) xs ≡ 0 → AllByRecursion (λ x. t x ≡ false) xs
  zero_none t [] e = tt
  zero_none t (x ∷ xs) e =
      let a = sum_by-cons (λ (z : X). one_if (t z)) x xs in
      (zero_false (t x) (sum_by (λ z. one_if (t z)) xs) (omega arith), zero_none t xs (omega arith))

  all_same : (t : X → Bool) (xs ys : List X) → SameSums xs ys → AllByRecursion (λ x. t x ≡ false) ys → AllByRecursion (λ x. t x ≡ false) xs
  all_same t xs ys same h =
      let a = none_zero t ys h in
      let b = same (λ x. one_if (t x)) in
      zero_none t xs (omega arith)

  itself : (x : X) → before x x ≡ false
  itself x = by_test (before x x) refl
    where
      by_test : (b : Bool) → before x x ≡ b → b ≡ false
      by_test true e = sym e ∙ order.one_way x x e
      by_test false e = refl

  nothing_sum : (x : X) (xs : List X) → SameSums (x ∷ xs) [] → ⊥
  nothing_sum x xs h = let a = h (λ z. 1) in let b = sum_by-cons (λ (z : X). 1) x xs in absurd (omega arith)

  one_list : (S : X → Type 0) → ((x y : X) → S x → S y → before x y ≡ false → before y x ≡ false → x ≡ y) → (xs ys : List X)
      → SameSums xs ys → AllByRecursion S xs → AllByRecursion S ys → Up xs → Up ys → xs ≡ ys
  one_list S ties [] [] same sx sy ux uy = refl
  one_list S ties [] (y ∷ ys) same sx sy ux uy = absurd (nothing_sum y ys (λ f. sym (same f)))
  one_list S ties (x ∷ xs) [] same sx sy ux uy = absurd (nothing_sum x xs same)
  one_list S ties (x ∷ xs) (y ∷ ys) same sx sy ux uy =
      let low = all_same (λ (z : X). before z y) (x ∷ xs) (y ∷ ys) same (itself y, uy.0) in
      let high = all_same (λ (z : X). before z x) (y ∷ ys) (x ∷ xs) (λ f. sym (same f)) (itself x, ux.0) in
      let first : x ≡ y = ties x y sx.0 sy.0 low.0 high.0 in
      let rest = λ (f : X → ℕ).
      (let a = same f in
      let b = sum_by-cons f x xs in
      let c = sum_by-cons f y ys in
      let d = ap f first in
      let is : sum_by f xs ≡ sum_by f ys = omega arith in is) in
      ap₂ {A = X} {B = List X} {C = List X} (λ z zs. z ∷ zs) first (one_list S ties xs ys rest sx.1 sy.1 ux.1 uy.1)

  up_of : (xs : List X) → ((i j : ℕ) (d : X) → i ≤ j → j < length xs → before (get_or xs j d) (get_or xs i d) ≡ false) → Up xs
  up_of [] h = tt
  up_of (x ∷ xs) h = (later xs (λ j lt. h 0 (suc j) x (omega arith) (omega arith)), up_of xs (λ i j d le lt. h (suc i) (suc j) d (omega arith) (omega arith)))
    where
      later : (ys : List X) → ((j : ℕ) → j < length ys → before (get_or ys j x) x ≡ false) → AllByRecursion (λ y. before y x ≡ false) ys
      later [] k = tt
      later (y ∷ ys) k = (k 0 (omega arith), later ys (λ j lt. k (suc j) (omega arith)))

  -- a list in order with these elements
  pub sorted_only : (S : X → Type 0) → ((x y : X) → S x → S y → before x y ≡ false → before y x ≡ false → x ≡ y) → (zs xs : List X)
      → AllByRecursion S zs → AllByRecursion S xs → AllByRecursion S (sorted before zs) → IsPermutation zs xs → IsSortedBy before xs → xs ≡ sorted before zs
  sorted_only S ties zs xs sz sx ss perm rises =
      one_list S ties xs (sorted before zs)
      (λ f. (let a = sum_by-IsPermutation f zs xs perm in let b = sorted_sum zs f in omega arith)) sx ss (up_of xs (sorted_far before order xs rises))
      (sorted_up zs)
