-- What is found by its number.
use Rattle.std.proofs.Common.{◌≡◌, ℕ, zero, suc, ◌<◌, Bool, List, [], ◌∷◌, length, map, get_or, refl, ap, subst, sym, ◌∙◌, arith, inl, inr, eq-eqb, ne_eqb}
use Rattle.std.specs.Prelude.{if◌then◌else◌, Some}
use Rattle.std.specs.List.{AllByRecursion}
use Rattle.std.proofs.lemmas.Bool.{cases_eq}
use Rattle.std.proofs.lemmas.Option.{none-some}
use Rattle.il_core.specs.Program.{found}
use Rattle.il_core.specs.Shapes.{IsRising, IsRisingFrom}
use Rattle.list_laws.proofs.Rising.{In, Above, Rises}

pub all_at : {X : Type 0} (P : X → Type 0) (xs : List X) (i : ℕ) (d : X) → AllByRecursion P xs → i < length xs → P (get_or xs i d)
all_at P [] i d all lt = absurd (omega arith)
all_at P (x ∷ xs) zero d all lt = all.0
all_at P (x ∷ xs) (suc i) d all lt = all_at P xs i d all.1 (omega arith)

module _ {X : Type 0} (number : X → ℕ) where
  pub record Found (q : ℕ) (xs : List X) : Type 0 where
    pub one : X
    pub is : found number q xs ≡ Some one

  pub found_here : (q : ℕ) (x : X) (xs : List X) → number x ≡ q → found number q (x ∷ xs) ≡ Some x
  found_here q x xs e = ap (λ (c : Bool). if c then Some x else found number q xs) (eq-eqb (number x) q e)

  pub found_there : (q : ℕ) (x : X) (xs : List X) → (number x ≡ q → ⊥) → found number q (x ∷ xs) ≡ found number q xs
  found_there q x xs ne = ap (λ (c : Bool). if c then Some x else found number q xs) (ne_eqb (number x) q ne)

  pub in_found : (q : ℕ) (xs : List X) → In q (map number xs) → Found q xs
  in_found q [] h = absurd h
  in_found q (x ∷ xs) h =
      elim (cases_eq (number x) q) [
        | inl e ↦ record { one = x; is = found_here q x xs e }
        | inr ne ↦ (elim h [
          | inl e ↦ absurd (ne (sym e))
          | inr h1 ↦
              (let r = in_found q xs h1 in record { one = r.one; is = found_there q x xs ne ∙ r.is })
        ])
      ]

  pub found_all : (P : X → Type 0) (q : ℕ) (xs : List X) (x : X) → AllByRecursion P xs → found number q xs ≡ Some x → P x × (number x ≡ q)
  found_all P q [] x all e = absurd (none-some x e)
  found_all P q (y ∷ ys) x all e =
      elim (cases_eq (number y) q) [
        | inl h ↦ (let same : y ≡ x = cc (found_here q y ys h) in (subst P same all.0, subst (λ (z : X). number z ≡ q) same h))
        | inr ne ↦ found_all P q ys x all.1 (sym (found_there q y ys ne) ∙ e)
      ]

  pub found_number : (q : ℕ) (xs : List X) (x : X) → found number q xs ≡ Some x → number x ≡ q
  found_number q [] x e = absurd (none-some x e)
  found_number q (y ∷ ys) x e =
      elim (cases_eq (number y) q) [
        | inl h ↦ (let same : y ≡ x = cc (found_here q y ys h) in subst (λ (z : X). number z ≡ q) same h)
        | inr ne ↦ found_number q ys x (sym (found_there q y ys ne) ∙ e)
      ]

  pub found_in : (q : ℕ) (xs : List X) (x : X) → found number q xs ≡ Some x → In q (map number xs)
  found_in q [] x e = none-some x e
  found_in q (y ∷ ys) x e = elim (cases_eq (number y) q) [ inl h ↦ inl (sym h) | inr ne ↦ inr (found_in q ys x (sym (found_there q y ys ne) ∙ e)) ]

  rising_from : (n : ℕ) (xs : List X) → IsRisingFrom number n xs → Above n (map number xs)
  rising_from n [] h = tt
  rising_from n (x ∷ xs) h = (h.0, rising_from (number x) xs h.1)

  pub rising : (xs : List X) → IsRising number xs → Rises (map number xs)
  rising [] h = tt
  rising (x ∷ xs) h = rising_from (number x) xs h

  pub rising_at : (n : ℕ) (xs : List X) (i : ℕ) (d : X) → IsRisingFrom number n xs → i < length xs → n < number (get_or xs i d)
  rising_at n [] i d h lt = absurd (omega arith)
  rising_at n (x ∷ xs) zero d h lt = h.0
  rising_at n (x ∷ xs) (suc i) d h lt = let m = rising_at (number x) xs i d h.1 (omega arith) in let l : n < number x = h.0 in omega (arith, m)

  pub rising_from_rising : (n : ℕ) (xs : List X) → IsRisingFrom number n xs → IsRising number xs
  rising_from_rising n [] h = tt
  rising_from_rising n (x ∷ xs) h = h.1

  -- what stands at a place is what is found by its number
  pub found_at : (xs : List X) (i : ℕ) (d : X) → IsRising number xs → i < length xs → found number (number (get_or xs i d)) xs ≡ Some (get_or xs i d)
  found_at [] i d h lt = absurd (omega arith)
  found_at (x ∷ xs) zero d h lt = found_here (number x) x xs refl
  found_at (x ∷ xs) (suc i) d h lt =
      let above = rising_at (number x) xs i d h (omega arith) in
      found_there (number (get_or xs i d)) x xs (λ e. omega (arith, above)) ∙ found_at xs i d (rising_from_rising (number x) xs h) (omega arith)
