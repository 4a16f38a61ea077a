-- Tables of numbers with entries written, and lists of numbers.
use Rattle.std.proofs.Common.{◌≡◌, ℕ, zero, suc, ◌<◌, List, [], ◌∷◌, ◌++◌, length, take, get_or, Bool, true, false, refl, ap, subst, sym, ◌∙◌, arith}
use Rattle.std.proofs.Common.{eqb-true, eq-eqb, ne_eqb}
use Rattle.std.specs.Prelude.{nat_eq, ◌||◌, if◌then◌else◌, slice_set}
use Rattle.std.specs.List.{AllByRecursion}
use Rattle.std.proofs.lemmas.List.{length-set, get_or-set_same, get_or-set_other}
use Rattle.inline_budget.specs.Calls.{number_at, has_number, IsOnce}

pub same_bad : (b : Bool) (x y : ℕ) → nat_eq x y ≡ false → x ≡ y → ⊥
same_bad b x y e same = let bad : true ≡ false = sym (eq-eqb x y same) ∙ e in absurd cc

-- an entry written
pub set_is : (ts : List ℕ) (x v z : ℕ) → x < length ts → number_at (slice_set ts x v) z ≡ (if nat_eq x z then v else number_at ts z)
set_is ts x v z lt = by_test (nat_eq x z) refl
  where
    by_test : (b : Bool) → nat_eq x z ≡ b → number_at (slice_set ts x v) z ≡ (if b then v else number_at ts z)
    by_test true e = ap (λ (k : ℕ). number_at (slice_set ts x v) k) (sym (eqb-true x z e)) ∙ get_or-set_same ts x v 0 lt
    by_test false e = get_or-set_other ts x z v 0 (λ same. same_bad true x z e (sym same))

pub set_here : (ts : List ℕ) (x v : ℕ) → x < length ts → number_at (slice_set ts x v) x ≡ v
set_here ts x v lt = get_or-set_same ts x v 0 lt

pub set_there : (ts : List ℕ) (x v z : ℕ) → (z ≡ x → ⊥) → number_at (slice_set ts x v) z ≡ number_at ts z
set_there ts x v z ne = get_or-set_other ts x z v 0 ne

pub all_set : (ts : List ℕ) (x v : ℕ) (xs : List ℕ) → AllByRecursion (λ y. y < length ts) xs
    → AllByRecursion (λ y. y < length (slice_set ts x v)) xs
all_set ts x v xs h = subst (λ (n : ℕ). AllByRecursion (λ y. y < n) xs) (sym (length-set ts x v)) h

pub all_at : (P : ℕ → Type 0) (xs : List ℕ) (i d : ℕ) → AllByRecursion P xs → i < length xs → P (get_or xs i d)
all_at P [] i d h lt = absurd (omega arith)
all_at P (x ∷ xs) zero d h lt = h.0
all_at P (x ∷ xs) (suc i) d h lt = all_at P xs i d h.1 (omega arith)

-- whether a number stands in a list

or_shift : (a b c : Bool) → (a || (b || c)) ≡ ((a || b) || c)
or_shift true b c = refl
or_shift false b c = refl

pub has_append : (xs : List ℕ) (y z : ℕ) → has_number (xs ++ y ∷ []) z ≡ (has_number xs z || nat_eq y z)
has_append [] y z = or_none (nat_eq y z)
  where
    or_none : (b : Bool) → (b || false) ≡ b
    or_none true = refl
    or_none false = refl
has_append (x ∷ xs) y z = ap (λ (b : Bool). nat_eq x z || b) (has_append xs y z) ∙ or_shift (nat_eq x z) (has_number xs z) (nat_eq y z)

pub has_here : (xs : List ℕ) (i d : ℕ) → i < length xs → has_number xs (get_or xs i d) ≡ true
has_here [] i d lt = absurd (omega arith)
has_here (x ∷ xs) zero d lt = ap (λ (b : Bool). b || has_number xs x) (eq-eqb x x refl)
has_here (x ∷ xs) (suc i) d lt =
    ap (λ (b : Bool). nat_eq x (get_or xs i d) || b) (has_here xs i d (omega arith)) ∙ or_true (nat_eq x (get_or xs i d))
  where
    or_true : (b : Bool) → (b || true) ≡ true
    or_true true = refl
    or_true false = refl

pub or_false : (a b : Bool) → (a || b) ≡ false → (a ≡ false) × (b ≡ false)
or_false false b e = (refl, e)
or_false true b e = let bad : true ≡ false = e in absurd cc

-- the list up to an element, and with it
pub has_take : (xs : List ℕ) (i d z : ℕ) → i < length xs → has_number (take (suc i) xs) z ≡ (has_number (take i xs) z || nat_eq (get_or xs i d) z)
has_take [] i d z lt = absurd (omega arith)
has_take (x ∷ xs) zero d z lt = or_none (nat_eq x z)
  where
    or_none : (b : Bool) → (b || false) ≡ b
    or_none true = refl
    or_none false = refl
has_take (x ∷ xs) (suc i) d z lt =
    ap (λ (b : Bool). nat_eq x z || b) (has_take xs i d z (omega arith)) ∙ or_shift (nat_eq x z) (has_number (take i xs) z) (nat_eq (get_or xs i d) z)

-- in a list without repetition no element stands before itself
pub once_take : (xs : List ℕ) (i d : ℕ) → IsOnce xs → i < length xs → has_number (take i xs) (get_or xs i d) ≡ false
once_take [] i d h lt = absurd (omega arith)
once_take (x ∷ xs) zero d h lt = refl
once_take (x ∷ xs) (suc i) d h lt =
    ap (λ (b : Bool). b || has_number (take i xs) (get_or xs i d)) (ne_eqb x (get_or xs i d) (λ same. other same)) ∙ once_take xs i d h.1 (omega arith)
  where
    other : x ≡ get_or xs i d → ⊥
    other same =
        let here : has_number xs x ≡ true = ap (λ (k : ℕ). has_number xs k) same ∙ has_here xs i d (omega arith) in
        let bad : true ≡ false = sym here ∙ h.0 in absurd cc

pub once_push : (xs : List ℕ) (y : ℕ) → IsOnce xs → has_number xs y ≡ false → IsOnce (xs ++ y ∷ [])
once_push [] y h none = (refl, tt)
once_push (x ∷ xs) y h none =
    let both = or_false (nat_eq x y) (has_number xs y) none in
    let other : nat_eq y x ≡ false = ne_eqb y x (λ same. same_bad true x y both.0 (sym same)) in (
      has_append xs y x ∙ ap (λ (b : Bool). b || nat_eq y x) h.0 ∙ other,
      once_push xs y h.1 both.1,
    )
