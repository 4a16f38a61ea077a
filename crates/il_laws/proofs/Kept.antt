-- Lists of which some elements are left out.
use Rattle.std.proofs.Common.{◌≡◌, ℕ, zero, suc, ◌<◌, ◌≤◌, List, [], ◌∷◌, Bool, true, false, refl, ap, subst, sym, ◌∙◌, arith, length, inl, inr}
use Rattle.std.specs.Prelude.{◌≢◌, cond, Some, ⊤, filter, Contains, get_or}
use Rattle.std.specs.List.{AllByRecursion}
use Rattle.std.proofs.lemmas.Bool.{cases_eq}
use Rattle.std.proofs.lemmas.Option.{same_Some}
use Rattle.il_core.specs.declared.shape.ShapeRow.{ShapeRow}
use Rattle.il_core.specs.Program.{found}
use Rattle.il_core.specs.Shapes.{IsRising, IsRisingFrom}
use Rattle.il_core.specs.Valid.{HasEachNameOnce}
use Rattle.il_core.proofs.Found.{found_here, found_there}
use Rattle.il_laws.proofs.Grown.{all_of}

pub all_both : {X : Type 0} (P Q : X → Type 0) (xs : List X) → AllByRecursion P xs → AllByRecursion Q xs → AllByRecursion (λ x. P x × Q x) xs
all_both P Q [] h g = tt
all_both P Q (x ∷ xs) h g = ((h.0, g.0), all_both P Q xs h.1 g.1)

module _ {X : Type 0} (t : X → Bool) where
  all_if : (P : X → Type 0) (k : Bool) (x : X) (xs : List X) → P x → AllByRecursion P xs → AllByRecursion P (cond k (x ∷ xs) xs)
  all_if P true x xs h g = (h, g)
  all_if P false x xs h g = g

  pub filter_all : (P : X → Type 0) (xs : List X) → AllByRecursion P xs → AllByRecursion P (filter t xs)
  filter_all P [] h = tt
  filter_all P (x ∷ xs) h = all_if P (t x) x (filter t xs) h.0 (filter_all P xs h.1)

  pass_if : (k : Bool) (x : X) (xs : List X) → t x ≡ k → AllByRecursion (λ y. t y ≡ true) xs → AllByRecursion (λ y. t y ≡ true) (cond k (x ∷ xs) xs)
  pass_if true x xs e h = (e, h)
  pass_if false x xs e h = h

  -- what is left passes the test
  pub filter_pass : (xs : List X) → AllByRecursion (λ y. t y ≡ true) (filter t xs)
  filter_pass [] = tt
  filter_pass (x ∷ xs) = pass_if (t x) x (filter t xs) refl (filter_pass xs)

  length_if : (k : Bool) (x : X) (xs : List X) (n : ℕ) → length xs ≤ n → length (cond k (x ∷ xs) xs) ≤ suc n
  length_if true x xs n le = omega arith
  length_if false x xs n le = omega arith

  pub filter_length : (xs : List X) → length (filter t xs) ≤ length xs
  filter_length [] = omega arith
  filter_length (x ∷ xs) = length_if (t x) x (filter t xs) (length xs) (filter_length xs)

  contains_here : (x z : X) (xs : List X) → z ≡ x → Contains (z ∷ xs) x
  contains_here x z xs e = (0, omega arith, e)

  contains_if : (k : Bool) (x z : X) (xs : List X) → Contains xs x → Contains (cond k (z ∷ xs) xs) x
  contains_if true x z xs h = let lt = h.1 in (suc h.0, omega arith, h.2)
  contains_if false x z xs h = h

  filter_at : (xs : List X) (x : X) (k : ℕ) → t x ≡ true → k < length xs → get_or xs k x ≡ x → Contains (filter t xs) x
  filter_at [] x k h lt e = absurd (omega arith)
  filter_at (z ∷ xs) x zero h lt e =
      subst (λ (b : Bool). Contains (cond b (z ∷ filter t xs) (filter t xs)) x) (sym (ap t e ∙ h)) (contains_here x z (filter t xs) e)
  filter_at (z ∷ xs) x (suc k) h lt e =
      contains_if (t z) x z (filter t xs) (filter_at xs x k h (let less : suc k < suc (length xs) = lt in omega arith) e)

  pub filter_contains : (xs : List X) (x : X) → t x ≡ true → Contains xs x → Contains (filter t xs) x
  filter_contains xs x h c = filter_at xs x c.0 h c.1 c.2

  module _ (number : X → ℕ) where
    kept_if : (k : Bool) (q : ℕ) (z x : X) (ys : List X) → found number q ys ≡ Some x → (number z ≡ q → ⊥) → found number q (cond k (z ∷ ys) ys) ≡ Some x
    kept_if true q z x ys g ne = found_there number q z ys ne ∙ g
    kept_if false q z x ys g ne = g

    -- what passes the test is found as before
    pub found_filter : (q : ℕ) (xs : List X) (x : X) → t x ≡ true → found number q xs ≡ Some x → found number q (filter t xs) ≡ Some x
    found_filter q [] x h e = e
    found_filter q (z ∷ xs) x h e =
        elim (cases_eq (number z) q) [
          | inl same ↦ (let is : z ≡ x = same_Some z x (sym (found_here number q z xs same) ∙ e) in
              subst (λ (b : Bool). found number q (cond b (z ∷ filter t xs) (filter t xs)) ≡ Some x) (sym (ap t is ∙ h))
              (found_here number q z (filter t xs) same ∙ ap Some is))
          | inr ne ↦ kept_if (t z) q z x (filter t xs) (found_filter q xs x h (sym (found_there number q z xs ne) ∙ e)) ne
        ]

    lower : (n m : ℕ) (xs : List X) → n ≤ m → IsRisingFrom number m xs → IsRisingFrom number n xs
    lower n m [] le h = tt
    lower n m (x ∷ xs) le h = (let lt = h.0 in omega arith, h.1)

    from_if : (k : Bool) (n : ℕ) (x : X) (xs : List X) → n < number x → IsRisingFrom number (number x) xs → IsRisingFrom number n (cond k (x ∷ xs) xs)
    from_if true n x xs lt h = (lt, h)
    from_if false n x xs lt h = lower n (number x) xs (omega arith) h

    filter_from : (n : ℕ) (xs : List X) → IsRisingFrom number n xs → IsRisingFrom number n (filter t xs)
    filter_from n [] h = tt
    filter_from n (x ∷ xs) h = from_if (t x) n x (filter t xs) h.0 (filter_from (number x) xs h.1)

    loose : (n : ℕ) (xs : List X) → IsRisingFrom number n xs → IsRising number xs
    loose n [] h = tt
    loose n (x ∷ xs) h = h.1

    rising_if : (k : Bool) (x : X) (xs : List X) → IsRisingFrom number (number x) xs → IsRising number (cond k (x ∷ xs) xs)
    rising_if true x xs h = h
    rising_if false x xs h = loose (number x) xs h

    pub filter_rising : (xs : List X) → IsRising number xs → IsRising number (filter t xs)
    filter_rising [] h = tt
    filter_rising (x ∷ xs) h = rising_if (t x) x (filter t xs) (filter_from (number x) xs h)

-- each element is below all later ones
module _ {X : Type 0} (number : X → ℕ) where
  abbrev pub Up : List X → Type 0
  Up [] = ⊤
  Up (x ∷ xs) = AllByRecursion (λ y. number x < number y) xs × Up xs

  all_from : (n m : ℕ) (xs : List X) → n ≤ m → IsRisingFrom number m xs → AllByRecursion (λ y. n < number y) xs
  all_from n m [] le h = tt
  all_from n m (x ∷ xs) le h = let lt = h.0 in (omega arith, all_from n (number x) xs (omega arith) h.1)

  up_from : (n : ℕ) (xs : List X) → IsRisingFrom number n xs → Up xs
  up_from n [] h = tt
  up_from n (x ∷ xs) h = (all_from (number x) (number x) xs (omega arith) h.1, up_from (number x) xs h.1)

  pub rising_up : (xs : List X) → IsRising number xs → Up xs
  rising_up [] h = tt
  rising_up (x ∷ xs) h = (all_from (number x) (number x) xs (omega arith) h, up_from (number x) xs h)

  back_if : (t : X → Bool) (k : Bool) (q : ℕ) (z x : X) (xs ys : List X) → AllByRecursion (λ y. number z < number y) ys
      → (found number q ys ≡ Some x → found number q xs ≡ Some x) → found number q (cond k (z ∷ ys) ys) ≡ Some x → found number q (z ∷ xs) ≡ Some x
  back_if t true q z x xs ys up rest e =
      elim (cases_eq (number z) q) [
        | inl same ↦ found_here number q z xs same ∙ sym (found_here number q z ys same) ∙ e
        | inr ne ↦ found_there number q z xs ne ∙ rest (sym (found_there number q z ys ne) ∙ e)
      ]
  back_if t false q z x xs ys up rest e =
      let lt : number z < q = all_of number (λ k. number z < k) q ys x up e in
      found_there number q z xs (λ h. absurd (omega arith)) ∙ rest e

  -- found among those that are left, found among all
  pub found_back : (t : X → Bool) (q : ℕ) (xs : List X) (x : X) → Up xs → found number q (filter t xs) ≡ Some x → found number q xs ≡ Some x
  found_back t q [] x up e = e
  found_back t q (z ∷ xs) x up e =
      back_if t (t z) q z x xs (filter t xs) (filter_all t (λ y. number z < number y) xs up.0) (λ d. found_back t q xs x up.1 d) e

names_if : (k : Bool) (x : ShapeRow) (xs : List ShapeRow) → AllByRecursion (λ other. other.name ≢ x.name) xs → HasEachNameOnce xs
    → HasEachNameOnce (cond k (x ∷ xs) xs)
names_if true x xs h g = (h, g)
names_if false x xs h g = g

pub filter_names : (t : ShapeRow → Bool) (xs : List ShapeRow) → HasEachNameOnce xs → HasEachNameOnce (filter t xs)
filter_names t [] h = tt
filter_names t (x ∷ xs) h = names_if (t x) x (filter t xs) (filter_all t (λ other. other.name ≢ x.name) xs h.0) (filter_names t xs h.1)
