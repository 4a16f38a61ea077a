-- Lists that are read item by item.
use Rattle.std.proofs.Common.{◌≡◌, ℕ, ◌+◌, ◌<◌, ◌≤◌, List, [], ◌∷◌, ◌++◌, length, map, refl, sym, ◌∙◌, ap, subst, append-nil, append_assoc}
use Rattle.std.proofs.Common.{length-append, sum, arith}
use Rattle.std.specs.Prelude.{◌==◌}
use Rattle.std.proofs.lemmas.List.Sums.{sum_by-append}
use Rattle.hlo_num.specs.declared.word.Word.{Word}
use Rattle.il_core.specs.Object.{ends_with_zero}
use Rattle.std.specs.List.{AllByRecursion}

-- items xs are read from the whole, and no other list that fits is it but one that goes on from them
pub record IsReadSoFar {X : Type 0} (spell : X → List ℕ) (fits : X → Type 0) (whole left : List (List ℕ)) (xs : List X) : Type 0 where
  pub so_far : whole ≡ map spell xs ++ left
  pub fit : AllByRecursion fits xs
  pub only : (ys : List X) → AllByRecursion fits ys → whole ≡ map spell ys → (zs : List X) × (ys ≡ xs ++ zs) × AllByRecursion fits zs × (left ≡ map spell zs)

-- what the next item is, if it is one
abbrev pub IsNext : {X : Type 0} → (X → List ℕ) → (X → Type 0) → List (List ℕ) → X → List (List ℕ) → Type 0
IsNext {X} spell fits left x behind = (y : X) (ws : List (List ℕ)) → fits y → left ≡ spell y ∷ ws → (x ≡ y) × (behind ≡ ws)

pub at_first : {X : Type 0} (spell : X → List ℕ) (fits : X → Type 0) (whole : List (List ℕ)) → IsReadSoFar spell fits whole whole []
at_first spell fits whole = record { so_far = refl; fit = tt; only = λ ys h e. (ys, refl, h, e) }

all_push : {X : Type 0} (fits : X → Type 0) (xs : List X) (x : X) → AllByRecursion fits xs → fits x → AllByRecursion fits (xs ++ x ∷ [])
all_push fits [] x h k = (k, tt)
all_push fits (y ∷ xs) x h k = (h.0, all_push fits xs x h.1 k)

map_push : {X : Type 0} (spell : X → List ℕ) (xs : List X) (x : X) (ws : List (List ℕ)) → map spell xs ++ spell x ∷ ws ≡ map spell (xs ++ x ∷ []) ++ ws
map_push spell [] x ws = refl
map_push spell (y ∷ xs) x ws = ap (λ l. spell y ∷ l) (map_push spell xs x ws)

-- of what is left, the next item and more
goes_on : {X : Type 0} (spell : X → List ℕ) (fits : X → Type 0) (left behind : List (List ℕ)) (x : X) (zs : List X) → left ≡ spell x ∷ behind
    → IsNext spell fits left x behind → AllByRecursion fits zs → left ≡ map spell zs
    → (us : List X) × (zs ≡ x ∷ us) × AllByRecursion fits us × (behind ≡ map spell us)
goes_on spell fits left behind x [] e next h k = let none : spell x ∷ behind ≡ [] = sym e ∙ k in absurd cc
goes_on spell fits left behind x (z ∷ zs) e next h k = let r = next z (map spell zs) h.0 k in (zs, ap (λ y. y ∷ zs) (sym r.0), h.1, r.1)

pub one_more : {X : Type 0} (spell : X → List ℕ) (fits : X → Type 0) (whole left behind : List (List ℕ)) (xs ys : List X) (x : X)
    → IsReadSoFar spell fits whole left xs → fits x → left ≡ spell x ∷ behind → IsNext spell fits left x behind → ys ≡ xs ++ x ∷ []
    → IsReadSoFar spell fits whole behind ys
one_more {X} spell fits whole left behind xs ys x h k e next push = subst (IsReadSoFar spell fits whole behind) (sym push) (record {
  so_far = h.so_far ∙ ap (λ l. map spell xs ++ l) e ∙ map_push spell xs x behind;
  fit = all_push fits xs x h.fit k;
  only = λ zs all is.
      let r = h.only zs all is in
      let s = goes_on spell fits left behind x r.0 e next r.2 r.3 in
      (s.0, r.1 ∙ ap (λ l. xs ++ l) s.1 ∙ sym (append_assoc xs (x ∷ []) s.0), s.2, s.3);
})

pub all_read : {X : Type 0} (spell : X → List ℕ) (fits : X → Type 0) (whole left : List (List ℕ)) (xs : List X) → IsReadSoFar spell fits whole left xs
    → left ≡ [] → whole ≡ map spell xs
all_read spell fits whole left xs h e = h.so_far ∙ ap (λ l. map spell xs ++ l) e ∙ append-nil (map spell xs)

nothing_left : {X : Type 0} (spell : X → List ℕ) (zs : List X) → [] ≡ map spell zs → zs ≡ []
nothing_left spell [] e = refl
nothing_left spell (z ∷ zs) e = absurd cc

pub only_these : {X : Type 0} (spell : X → List ℕ) (fits : X → Type 0) (whole left : List (List ℕ)) (xs : List X) → IsReadSoFar spell fits whole left xs
    → left ≡ []
    → (ys : List X) → AllByRecursion fits ys → whole ≡ map spell ys → xs ≡ ys
only_these spell fits whole left xs h e ys all is =
    let r = h.only ys all is in
    sym (r.1 ∙ ap (λ l. xs ++ l) (nothing_left spell r.0 (sym e ∙ r.3)) ∙ append-nil xs)

longer : {X : Type 0} (xs ys : List X) → (ys ≡ [] → ⊥) → length xs < length (xs ++ ys)
longer [] [] some = absurd (some refl)
longer [] (y ∷ ys) some = omega arith
longer (x ∷ xs) ys some = omega (arith, longer xs ys some)

-- where more is left, a list that is the whole is longer
pub is_longer : {X : Type 0} (spell : X → List ℕ) (fits : X → Type 0) (whole left : List (List ℕ)) (xs : List X) → IsReadSoFar spell fits whole left xs
    → (left ≡ [] → ⊥)
    → (ys : List X) → AllByRecursion fits ys → whole ≡ map spell ys → length xs < length ys
is_longer spell fits whole left xs h more ys all is = let r = h.only ys all is in subst (λ l. length xs < length l) (sym r.1)
    (longer xs r.0 (λ e. more (r.3 ∙ ap (map spell) e)))

stuck : {X : Type 0} (spell : X → List ℕ) (fits : X → Type 0) (left : List (List ℕ)) → (left ≡ [] → ⊥)
    → ((y : X) (ws : List (List ℕ)) → fits y → left ≡ spell y ∷ ws → ⊥) → (zs : List X) → AllByRecursion fits zs → left ≡ map spell zs → ⊥
stuck spell fits left more none [] a e = more e
stuck spell fits left more none (z ∷ zs) a e = none z (map spell zs) a.0 e

-- where the next item can't be read, there is no such list
pub no_list : {X : Type 0} (spell : X → List ℕ) (fits : X → Type 0) (whole left : List (List ℕ)) (xs : List X) → IsReadSoFar spell fits whole left xs
    → (left ≡ [] → ⊥)
    → ((y : X) (ws : List (List ℕ)) → fits y → left ≡ spell y ∷ ws → ⊥) → (ys : List X) → AllByRecursion fits ys → whole ≡ map spell ys → ⊥
no_list spell fits whole left xs h more none ys all is = let r = h.only ys all is in stuck spell fits left more none r.0 r.2 r.3

-- the items read and the next one stand in front of a list that is the whole
pub has_next : {X : Type 0} (spell : X → List ℕ) (fits : X → Type 0) (whole left behind : List (List ℕ)) (xs : List X) (x : X)
    → IsReadSoFar spell fits whole left xs → left ≡ spell x ∷ behind → IsNext spell fits left x behind
    → (ys : List X) → AllByRecursion fits ys → whole ≡ map spell ys → (zs : List X) × (ys ≡ xs ++ x ∷ zs)
has_next spell fits whole left behind xs x h e next ys all is =
    let r = h.only ys all is in
    let s = goes_on spell fits left behind x r.0 e next r.2 r.3 in
    (s.0, r.1 ∙ ap (λ l. xs ++ l) s.1)

pub length_push : {X : Type 0} (xs ys : List X) (x : X) → ys ≡ xs ++ x ∷ [] → length ys ≡ length xs + 1
length_push xs ys x e = ap length e ∙ length-append xs (x ∷ [])

sum_append : (xs ys : List ℕ) → sum (xs ++ ys) ≡ sum xs + sum ys
sum_append xs ys = sum_by-append (λ n. n) xs ys

pub sum_push : (xs ys : List ℕ) (x : ℕ) → ys ≡ xs ++ x ∷ [] → sum ys ≡ sum xs + x
sum_push xs ys x e = let s : sum ys ≡ sum xs + (0 + x) = ap sum e ∙ sum_append xs (x ∷ []) in omega (arith, s)

pub sum_at_least : (xs : List ℕ) (x : ℕ) (zs ys : List ℕ) → ys ≡ xs ++ x ∷ zs → sum xs + x ≤ sum ys
sum_at_least xs x zs ys e = let s : sum ys ≡ sum xs + sum (x ∷ zs) = ap sum e ∙ sum_append xs (x ∷ zs) in let t : sum (x ∷ zs) ≡ (0 + x) + sum zs = sum_append
    (x ∷ []) zs in omega (arith, s, t)

ends_push : (xs : List Word) (x : Word) → ends_with_zero (xs ++ x ∷ []) ≡ (x.0 == 0)
ends_push [] x = refl
ends_push (y ∷ []) x = refl
ends_push (y ∷ z ∷ xs) x = ends_push (z ∷ xs) x

pub last_push : (xs ys : List Word) (x : Word) → ys ≡ xs ++ x ∷ [] → (x.0 == 0) ≡ ends_with_zero ys
last_push xs ys x e = sym (ap ends_with_zero e ∙ ends_push xs x)
