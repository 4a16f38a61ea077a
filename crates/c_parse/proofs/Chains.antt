-- A rule that is recursive at its left end, height by height, and what grows step by step.
use Rattle.std.proofs.Common.{ℕ, zero, suc, ◌≡◌, ◌<◌, ◌≤◌, refl, sym, subst, ◌∙◌, Bool, true, false, nat_le, nat_eq, if◌then◌else◌, List, ◌++◌, inl, inr, arith}
use Rattle.std.proofs.lemmas.Bool.{le-leb, leb-true, ne_eqb}
use Rattle.c_tree.specs.declared.token.Token.{Token}
use Rattle.c_parse.specs.Languages.{Lang, both, either, made, such}
use Rattle.c_parse.specs.ExpressionReaders.{fits}
use Rattle.c_parse.proofs.Members.{if_false}
use Rattle.c_parse.proofs.Rows.{Grown, start, more, grown_mono}

pub fits_le : {X : Type 0} (n : ℕ) (c : X × ℕ) → fits n c ≡ true → c.1 ≤ n
fits_le n c h = go (nat_eq n 0) h
  where
    go : (b : Bool) → (if b then false else nat_le c.1 n) ≡ true → c.1 ≤ n
    go true h = absurd cc
    go false h = leb-true c.1 n h

pub fits_pos : {X : Type 0} (n : ℕ) (c : X × ℕ) → fits n c ≡ true → nat_eq n 0 ≡ false
fits_pos n c h = go (nat_eq n 0) h
  where
    go : (b : Bool) → (if b then false else nat_le c.1 n) ≡ true → b ≡ false
    go true h = absurd cc
    go false h = refl

pub le_fits : {X : Type 0} (n : ℕ) (c : X × ℕ) → 0 < n → c.1 ≤ n → fits n c ≡ true
le_fits n c h k = if_false _ _ (ne_eqb n 0 (λ e. omega (arith, e, h))) ∙ le-leb c.1 n k

pub fits_mono : {X : Type 0} (n m : ℕ) (c : X × ℕ) → n ≤ m → fits n c ≡ true → fits m c ≡ true
fits_mono n m c le h = let k = fits_le n c h in le_fits m c (go n le (fits_pos n c h)) (omega (arith, k, le))
  where
    go : (n : ℕ) → n ≤ m → nat_eq n 0 ≡ false → 0 < m
    go zero le h = absurd cc
    go (suc n) le h = omega (arith, le)

module _ {X B : Type 0} (C F : ℕ → Lang (X × ℕ)) (T : ℕ → Lang B) (test : X × ℕ → Bool) (g : X × ℕ → B → X × ℕ)
    (empty : (c : X × ℕ) (us : List Token) → C zero c us → ⊥)
    (into : (n : ℕ) (c : X × ℕ) (us : List Token) → either (F n) (made (λ d. g d.0 d.1) (both (such test (C n)) (T n))) c us → C (suc n) c us)
    (out : (n : ℕ) (c : X × ℕ) (us : List Token) → C (suc n) c us → either (F n) (made (λ d. g d.0 d.1) (both (such test (C n)) (T n))) c us)
    (lowers : (n : ℕ) (c : X × ℕ) (us : List Token) → C (suc n) c us → c.1 ≤ n → C n c us)
    (bounded : (n : ℕ) (c : X × ℕ) (us : List Token) → C n c us → c.1 ≤ n)
    (wider : (n : ℕ) (c : X × ℕ) (us : List Token) → F n c us → F (suc n) c us)
    (wider2 : (n : ℕ) (b : B) (us : List Token) → T n b us → T (suc n) b us) where
  pub grown_chain : (n : ℕ) (c : X × ℕ) (us : List Token) → Grown (F n) (T n) test (fits n) g c us → C (suc n) c us
  grown_chain n c us (start b vs l) = into n b vs (inl l)
  grown_chain n c us (more d b us1 vs gr e1 e2 l) = into n (g d b) (us1 ++ vs)
      (inr ((d, b), refl, (us1, vs, refl, (e1, lowers n d us1 (grown_chain n d us1 gr) (fits_le n d e2)), l)))

  raise : (n : ℕ) (c : X × ℕ) (us : List Token) → Grown (F n) (T n) test (fits n) g c us → Grown (F (suc n)) (T (suc n)) test (fits (suc n)) g c us
  raise n = grown_mono (wider n) (λ a f. wider2 n) (λ a h. fits_mono n (suc n) a (omega arith) h)

  pub chain_grown : (n : ℕ) (c : X × ℕ) (us : List Token) → C (suc n) c us → Grown (F n) (T n) test (fits n) g c us
  chain_grown zero c us l = go (out zero c us l)
    where
      go : either (F zero) (made (λ d. g d.0 d.1) (both (such test (C zero)) (T zero))) c us → Grown (F zero) (T zero) test (fits zero) g c us
      go (inl k) = start c us k
      go (inr (d, e, (us1, vs, e2, tc, k))) = absurd (empty d.0 us1 tc.1)
  chain_grown (suc n) c us l = go (chain_grown n) (out (suc n) c us l)
    where
      go : ((d : X × ℕ) (vs : List Token) → C (suc n) d vs → Grown (F n) (T n) test (fits n) g d vs)
          → either (F (suc n)) (made (λ d. g d.0 d.1) (both (such test (C (suc n))) (T (suc n)))) c us
          → Grown (F (suc n)) (T (suc n)) test (fits (suc n)) g c us
      go ih (inl k) = start c us k
      go ih (inr (d, e, (us1, vs, e2, tc, k))) = subst (λ z. Grown (F (suc n)) (T (suc n)) test (fits (suc n)) g z us) (sym e)
          (subst (Grown (F (suc n)) (T (suc n)) test (fits (suc n)) g (g d.0 d.1)) (sym e2)
          (more d.0 d.1 us1 vs (raise n d.0 us1 (ih d.0 us1 tc.1)) tc.0 (le_fits (suc n) d.0 (omega arith) (bounded (suc n) d.0 us1 tc.1)) k))
