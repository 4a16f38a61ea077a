-- Two rising lists of numbers that lie apart in a third one, and are as long as it together, are all of it.
use Rattle.std.proofs.Common.{◌≡◌, ℕ, ◌+◌, ◌<◌, ◌≤◌, List, [], ◌∷◌, length, refl, ap, subst, sym, arith, inl, inr}
use Rattle.std.specs.Prelude.{◌⊎◌, ⊤}
use Rattle.std.proofs.lemmas.Bool.{cases_eq}

abbrev pub In : ℕ → List ℕ → Type 0
In q [] = ⊥
In q (x ∷ xs) = (q ≡ x) ⊎ In q xs

-- each number is above the one before
abbrev pub Above : ℕ → List ℕ → Type 0
Above n [] = ⊤
Above n (x ∷ xs) = (n < x) × Above x xs

abbrev pub Rises : List ℕ → Type 0
Rises [] = ⊤
Rises (x ∷ xs) = Above x xs

above_in : (n : ℕ) (xs : List ℕ) (q : ℕ) → Above n xs → In q xs → n < q
above_in n [] q a h = absurd h
above_in n (x ∷ xs) q a (inl e) = let l : n < x = a.0 in omega arith
above_in n (x ∷ xs) q a (inr h) = let l : n < x = a.0 in let m = above_in x xs q a.1 h in omega (arith, m)

above_rises : (n : ℕ) (xs : List ℕ) → Above n xs → Rises xs
above_rises n [] a = tt
above_rises n (x ∷ xs) a = a.1

pub record AllIn (xs ys : List ℕ) : Type 0 where
  pub by : (q : ℕ) → In q xs → In q ys

-- one list begins with the first number of the whole, or doesn't have it
pub record Begins (k : ℕ) (ls : List ℕ) : Type 0 where
  pub rest : List ℕ
  pub same : ls ≡ k ∷ rest
  pub above : Above k rest

first : (k : ℕ) (ks ls : List ℕ) → Above k ks → Rises ls → AllIn ls (k ∷ ks) → Begins k ls ⊎ (In k ls → ⊥)
first k ks [] a r all = inr (λ h. h)
first k ks (x ∷ xs) a r all =
    elim (cases_eq x k) [
      | inl e ↦ inl (record { rest = xs; same = ap (λ (n : ℕ). n ∷ xs) e; above = subst (λ (n : ℕ). Above n xs) e r })
      | inr ne ↦ inr (λ h.
          let above : k < x = elim (all.by x (inl refl)) [ inl e ↦ absurd (ne e) | inr h1 ↦ above_in k ks x a h1 ] in
          elim h [ inl e ↦ ne (sym e) | inr h1 ↦ let m = above_in x xs k r h1 in omega (arith, m) ])
    ]

-- what isn't the first number is one of the rest
rest_in : (k : ℕ) (ks ls : List ℕ) → AllIn ls (k ∷ ks) → (In k ls → ⊥) → AllIn ls ks
rest_in k ks ls all none = record { by = λ q h. elim (all.by q h) [ inl e ↦ absurd (none (subst (λ (n : ℕ). In n ls) e h)) | inr h1 ↦ h1 ] }

rest_behind : (k : ℕ) (ks xs : List ℕ) → AllIn (k ∷ xs) (k ∷ ks) → Above k xs → AllIn xs ks
rest_behind k ks xs all above =
    record { by = λ q h. elim (all.by q (inr h)) [ inl e ↦ let m = above_in k xs q above h in absurd (omega (arith, m)) | inr h1 ↦ h1 ] }

pub record Covers (ks ls ms : List ℕ) : Type 0 where
  pub few : length ls + length ms ≤ length ks
  pub all : length ks ≤ length ls + length ms → (q : ℕ) → In q ks → In q ls ⊎ In q ms

pub record Apart (ls ms : List ℕ) : Type 0 where
  pub by : (q : ℕ) → In q ls → In q ms → ⊥

left_first : (k : ℕ) (ks xs ms : List ℕ) → Covers ks xs ms → Covers (k ∷ ks) (k ∷ xs) ms
left_first k ks xs ms c = record {
  few = omega (arith, c.few);
  all = λ long q h. elim h [ inl e ↦ inl (inl e) | inr h1 ↦ elim (c.all (omega arith) q h1) [ inl a ↦ inl (inr a) | inr b ↦ inr b ] ];
}

right_first : (k : ℕ) (ks ls xs : List ℕ) → Covers ks ls xs → Covers (k ∷ ks) ls (k ∷ xs)
right_first k ks ls xs c = record {
  few = omega (arith, c.few);
  all = λ long q h. elim h [ inl e ↦ inr (inl e) | inr h1 ↦ elim (c.all (omega arith) q h1) [ inl a ↦ inl a | inr b ↦ inr (inr b) ] ];
}

pub covers : (ks ls ms : List ℕ) → Rises ks → Rises ls → Rises ms → AllIn ls ks → AllIn ms ks → Apart ls ms → Covers ks ls ms
covers [] [] [] rk ra rb ia ib ap1 = record { few = omega arith; all = λ long q h. absurd h }
covers [] (x ∷ xs) ms rk ra rb ia ib ap1 = absurd (ia.by x (inl refl))
covers [] [] (x ∷ xs) rk ra rb ia ib ap1 = absurd (ib.by x (inl refl))
covers (k ∷ ks) ls ms rk ra rb ia ib apart =
    elim (first k ks ls rk ra ia) [
      | inl s ↦
          let inner : AllIn (k ∷ s.rest) (k ∷ ks) = subst (λ (l : List ℕ). AllIn l (k ∷ ks)) s.same ia in
          let apart1 : Apart (k ∷ s.rest) ms = subst (λ (l : List ℕ). Apart l ms) s.same apart in
          subst (λ (l : List ℕ). Covers (k ∷ ks) l ms) (sym s.same) (left_first k ks s.rest ms
          (covers ks s.rest ms (above_rises k ks rk) (above_rises k s.rest s.above) rb (rest_behind k ks s.rest inner s.above)
          (rest_in k ks ms ib (apart1.by k (inl refl))) (record { by = λ q h. apart1.by q (inr h) })))
      | inr na ↦ elim (first k ks ms rk rb ib) [
        | inl s ↦
            let inner : AllIn (k ∷ s.rest) (k ∷ ks) = subst (λ (l : List ℕ). AllIn l (k ∷ ks)) s.same ib in
            let apart1 : Apart ls (k ∷ s.rest) = subst (λ (l : List ℕ). Apart ls l) s.same apart in
            subst (λ (l : List ℕ). Covers (k ∷ ks) ls l) (sym s.same) (right_first k ks ls s.rest
            (covers ks ls s.rest (above_rises k ks rk) ra (above_rises k s.rest s.above) (rest_in k ks ls ia na)
            (rest_behind k ks s.rest inner s.above) (record { by = λ q h h1. apart1.by q h (inr h1) })))
        | inr nb ↦
            let c = covers ks ls ms (above_rises k ks rk) ra rb (rest_in k ks ls ia na) (rest_in k ks ms ib nb) apart in
            record { few = omega (arith, c.few); all = λ long q h. absurd (omega (arith, c.few)) }
      ]
    ]
