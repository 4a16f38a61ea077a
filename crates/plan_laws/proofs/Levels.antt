-- Accepted calls that are free of cycles have levels that fall along each call, and the other way round.
use Rattle.std.proofs.Common.{◌≡◌, ℕ, zero, suc, ◌+◌, ◌<◌, ◌≤◌, List, [], ◌∷◌, Bool, true, false, refl, ap, ap₂, subst, sym, ◌∙◌, arith, length}
use Rattle.std.proofs.Common.{eqb-true, eq-eqb, le-leb, leb-true}
use Rattle.std.specs.Prelude.{◌&&◌, max, nat_eq, nat_le, if◌then◌else◌}
use Rattle.std.specs.List.{AllByRecursion, list_all}
use Rattle.il_laws.specs.Edges.{one_if}
use Rattle.il_laws.proofs.Grown.{all_to}
use Rattle.il_laws.proofs.Kept.{all_both, filter_all, filter_pass}
use Rattle.plan_laws.specs.Orders.{greatest}
use Rattle.plan_laws.specs.Numbers.{Choice}
use Rattle.plan_laws.specs.Levels.{calls_from, chain, level, is_acyclic}

module _ (f : Choice → ℕ) where
  greatest_if : (k : Bool) (x : Choice) (xs : List Choice) (n : ℕ) → n ≤ greatest f xs → n ≤ greatest f (if k then x ∷ xs else xs)
  greatest_if true x xs n le = omega arith
  greatest_if false x xs n le = le

  -- what a caller's calls have is at most the greatest
  caller_least : (pid : ℕ) (cs : List Choice) → AllByRecursion (λ c. c.caller ≡ pid → f c ≤ greatest f (calls_from cs pid)) cs
  caller_least pid [] = tt
  caller_least pid (x ∷ cs) = (
    λ e. subst (λ (b : Bool). f x ≤ greatest f (if b then x ∷ calls_from cs pid else calls_from cs pid)) (sym (eq-eqb x.caller pid e)) (omega arith),
    all_to (λ (c : Choice). c.caller ≡ pid → f c ≤ greatest f (calls_from cs pid))
        (λ c. c.caller ≡ pid → f c ≤ greatest f (calls_from (x ∷ cs) pid)) cs
        (λ c h e. greatest_if (nat_eq x.caller pid) x (calls_from cs pid) (f c) (h e)) (caller_least pid cs),
  )

module _ (cs : List Choice) where
  same_greatest : (n m : ℕ) → ((q : ℕ) → chain cs n q < n → chain cs n q ≡ chain cs (suc n) q) → (xs : List Choice)
      → greatest (λ c. suc (chain cs n c.callee)) xs < suc n → greatest (λ c. suc (chain cs n c.callee)) xs ≡ greatest (λ c. suc (chain cs (suc n) c.callee)) xs
  same_greatest n m h [] lt = refl
  same_greatest n m h (x ∷ xs) lt =
      let less : max (suc (chain cs n x.callee)) (greatest (λ (c : Choice). suc (chain cs n c.callee)) xs) < suc n = lt in
      ap₂ {A = ℕ} {B = ℕ} {C = ℕ} (λ a b. max (suc a) b) (h x.callee (omega arith)) (same_greatest n m h xs (omega arith))

  pub chain_stays : (n q : ℕ) → chain cs n q < n → chain cs n q ≡ chain cs (suc n) q
  chain_stays zero q lt = absurd (omega arith)
  chain_stays (suc n) q lt = same_greatest n 0 (λ p less. chain_stays n p less) (calls_from cs q) lt

  and_both : (k l : Bool) → (k && l) ≡ true → (k ≡ true) × (l ≡ true)
  and_both true l e = (refl, e)
  and_both false l e = let bad : false ≡ true = e in absurd cc

  all_true : (t : Choice → Bool) (xs : List Choice) → list_all t xs ≡ true → AllByRecursion (λ c. t c ≡ true) xs
  all_true t [] e = tt
  all_true t (x ∷ xs) e = let both = and_both (t x) (list_all t xs) e in (both.0, all_true t xs both.1)

  true_all : (t : Choice → Bool) (xs : List Choice) → AllByRecursion (λ c. t c ≡ true) xs → list_all t xs ≡ true
  true_all t [] h = refl
  true_all t (x ∷ xs) h = ap (λ (b : Bool). b && list_all t xs) h.0 ∙ true_all t xs h.1

  abbrev next_level : Choice → ℕ
  next_level c = suc (chain cs (length cs) c.callee)

  caller_all : (pid : ℕ) (xs : List Choice) → AllByRecursion (λ c. c.caller ≡ pid → next_level c ≤ greatest next_level (calls_from xs pid)) xs
  caller_all pid xs = caller_least next_level pid xs

  own_least : (ys : List Choice) → ((pid : ℕ) → AllByRecursion (λ c. c.caller ≡ pid → next_level c ≤ level cs pid) ys)
      → AllByRecursion (λ c. next_level c ≤ level cs c.caller) ys
  own_least [] h = tt
  own_least (y ∷ ys) h = ((h y.caller).0 refl, own_least ys (λ pid. (h pid).1))

  one_falls : (c : Choice) → level cs c.caller ≤ length cs → next_level c ≤ level cs c.caller → level cs c.callee < level cs c.caller
  one_falls c few least = let same = chain_stays (length cs) c.callee (omega arith) in omega arith

  -- levels fall along each accepted call
  pub levels_fall : is_acyclic cs ≡ true → AllByRecursion (λ c. level cs c.callee < level cs c.caller) cs
  levels_fall e =
      all_to (λ (c : Choice). (nat_le (level cs c.caller) (length cs) ≡ true) × (next_level c ≤ level cs c.caller))
      (λ c. level cs c.callee < level cs c.caller) cs
      (λ c h. one_falls c (leb-true (level cs c.caller) (length cs) h.0) h.1)
      (all_both (λ (c : Choice). nat_le (level cs c.caller) (length cs) ≡ true) (λ c. next_level c ≤ level cs c.caller) cs
      (all_true (λ c. nat_le (level cs c.caller) (length cs)) cs e) (own_least cs (λ pid. caller_all pid cs)))

  -- where some numbers fall along each call, the calls are free of cycles
  module _ (rank : ℕ → ℕ) where
    abbrev up_to : ℕ → List Choice → ℕ
    up_to n [] = 0
    up_to n (c ∷ xs) = one_if (nat_le (rank c.caller) n) + up_to n xs

    fewer_if : (k : Bool) → one_if k ≤ 1
    fewer_if true = omega arith
    fewer_if false = omega arith

    up_few : (n : ℕ) (xs : List Choice) → up_to n xs ≤ length xs
    up_few n [] = omega arith
    up_few n (x ∷ xs) = let one = fewer_if (nat_le (rank x.caller) n) in let rest = up_few n xs in omega arith

    one_more : (a n m : ℕ) (j k : Bool) → nat_le a n ≡ j → nat_le a m ≡ k → n ≤ m → one_if j ≤ one_if k
    one_more a n m true true ej ek le = omega arith
    one_more a n m true false ej ek le =
        let h = leb-true a n ej in
        let g : nat_le a m ≡ true = le-leb a m (omega arith) in
        let bad : true ≡ false = sym g ∙ ek in absurd cc
    one_more a n m false k ej ek le = omega arith

    up_more : (n m : ℕ) (xs : List Choice) → n ≤ m → up_to n xs ≤ up_to m xs
    up_more n m [] le = omega arith
    up_more n m (x ∷ xs) le =
        let one = one_more (rank x.caller) n m (nat_le (rank x.caller) n) (nat_le (rank x.caller) m) refl refl le in
        let rest = up_more n m xs le in omega arith

    -- a call from a caller of rank m counts for m, and not below
    up_less : (n m : ℕ) (xs : List Choice) → n < m → AllByRecursion (λ c. rank c.caller ≡ m → up_to n xs < up_to m xs) xs
    up_less n m [] lt = tt
    up_less n m (x ∷ xs) lt = (
      λ e. (let on = ap one_if (le-leb (rank x.caller) m (omega arith)) in
          let off = ap one_if (not_le (rank x.caller) n (omega arith)) in
          let rest = up_more n m xs (omega arith) in
          omega arith),
      all_to (λ (c : Choice). rank c.caller ≡ m → up_to n xs < up_to m xs) (λ c. rank c.caller ≡ m → up_to n (x ∷ xs) < up_to m (x ∷ xs)) xs
          (λ c h e.
          (let one = one_more (rank x.caller) n m (nat_le (rank x.caller) n) (nat_le (rank x.caller) m) refl refl (omega arith) in
          let rest = h e in omega arith)) (up_less n m xs lt),
    )
      where
        not_le : (a b : ℕ) → b < a → nat_le a b ≡ false
        not_le a b lt = by (nat_le a b) refl
          where
            by : (k : Bool) → nat_le a b ≡ k → k ≡ false
            by true e = let le = leb-true a b e in absurd (omega arith)
            by false e = refl

    own_up : (ys : List Choice) → ((n m : ℕ) → n < m → AllByRecursion (λ c. rank c.caller ≡ m → up_to n cs < up_to m cs) ys)
        → AllByRecursion (λ c. (n : ℕ) → n < rank c.caller → up_to n cs < up_to (rank c.caller) cs) ys
    own_up [] h = tt
    own_up (y ∷ ys) h = (λ n lt. (h n (rank y.caller) lt).0 refl, own_up ys (λ n m lt. (h n m lt).1))

    most : (f : Choice → ℕ) (m : ℕ) (xs : List Choice) → AllByRecursion (λ c. f c ≤ m) xs → greatest f xs ≤ m
    most f m [] h = omega arith
    most f m (x ∷ xs) h = let one = h.0 in let rest = most f m xs h.1 in omega arith

    abbrev Falls : Choice → Type 0
    Falls c = (rank c.callee < rank c.caller) × ((n : ℕ) → n < rank c.caller → up_to n cs < up_to (rank c.caller) cs)

    chain_low : AllByRecursion Falls cs → (n q : ℕ) → chain cs n q ≤ up_to (rank q) cs
    chain_low falls zero q = omega arith
    chain_low falls (suc n) q =
        most (λ c. suc (chain cs n c.callee)) (up_to (rank q) cs) (calls_from cs q)
        (all_to (λ (c : Choice). (nat_eq c.caller q ≡ true) × Falls c) (λ c. suc (chain cs n c.callee) ≤ up_to (rank q) cs) (calls_from cs q)
        (λ c h. (let here = ap (λ (x : ℕ). up_to (rank x) cs) (eqb-true c.caller q h.0) in
        let low = chain_low falls n c.callee in
        let up = h.1.1 (rank c.callee) h.1.0 in
        omega arith))
        (all_both (λ (c : Choice). nat_eq c.caller q ≡ true) Falls (calls_from cs q) (filter_pass (λ c. nat_eq c.caller q) cs)
        (filter_all (λ c. nat_eq c.caller q) Falls cs falls)))

    pub ranked_acyclic : AllByRecursion (λ c. rank c.callee < rank c.caller) cs → is_acyclic cs ≡ true
    ranked_acyclic h =
        let falls = all_both (λ (c : Choice). rank c.callee < rank c.caller)
        (λ c. (n : ℕ) → n < rank c.caller → up_to n cs < up_to (rank c.caller) cs) cs h (own_up cs (λ n m lt. up_less n m cs lt)) in
        true_all (λ c. nat_le (level cs c.caller) (length cs)) cs
        (all_to (λ (c : Choice). rank c.callee < rank c.caller) (λ c. nat_le (level cs c.caller) (length cs) ≡ true) cs
        (λ c lt.
        (let low = chain_low falls (suc (length cs)) c.caller in
        let few = up_few (rank c.caller) cs in
        le-leb (level cs c.caller) (length cs) (omega arith))) h)
