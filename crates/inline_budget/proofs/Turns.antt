-- What the loop that finds levels takes from the tables.
use Rattle.std.proofs.Common.{◌≡◌, ℕ, zero, suc, ◌+◌, ◌-◌, ◌<◌, ◌≤◌, List, [], ◌∷◌, length, get_or, replicate, true, ap, subst, sym, ◌∙◌, arith}
use Rattle.std.specs.Prelude.{slice_index_or, sum_by}
use Rattle.std.specs.List.{AllByRecursion}
use Rattle.plan_laws.specs.Levels.{calls_from, chain, level, is_acyclic}
use Rattle.plan_laws.specs.Orders.{greatest}
use Rattle.inline_budget.specs.Calls.{Calls, callers_of, number_at}
use Rattle.inline_budget.specs.Levelling.{filed, counted, lowered_all, risen_all, noted_all, zeros, bound_of}
use Rattle.inline_budget.proofs.Levelled.{AreBelow, IsFinding, known_left, known_level, inside, found_more, found_less, all_exact, calls_below}
use Rattle.inline_budget.proofs.Levelled.{callers_at, any_default, found_first}

most_chain : (cs : Calls) (n : ℕ) (xs : Calls) → ((q : ℕ) → chain cs n q ≤ n) → greatest (λ c. suc (chain cs n c.callee)) xs ≤ suc n
most_chain cs n [] h = omega arith
most_chain cs n (x ∷ xs) h = let one = h x.callee in let rest = most_chain cs n xs h in omega arith

chain_most : (cs : Calls) (n q : ℕ) → chain cs n q ≤ n
chain_most cs zero q = omega arith
chain_most cs (suc n) q = most_chain cs n (calls_from cs q) (λ x. chain_most cs n x)

pub first_as : (n : ℕ) (cs : Calls) (ls ts ks : List ℕ) → n ≡ bound_of cs → ls ≡ replicate n 0 → ts ≡ counted (replicate n 0) cs → ks ≡ zeros 0 ts
    → IsFinding cs n ls ts ks 0
first_as n cs ls ts ks e els ets eks =
    let first = found_first n cs (calls_below n cs (omega arith)) in
    let known : ks ≡ zeros 0 (counted (replicate n 0) cs) = eks ∙ ap (zeros 0) ets in
    subst (λ (us : List ℕ). IsFinding cs n us ts ks 0) (sym els)
    (subst (λ (us : List ℕ). IsFinding cs n (replicate n 0) us ks 0) (sym ets)
    (subst (λ (us : List ℕ). IsFinding cs n (replicate n 0) (counted (replicate n 0) cs) us 0) (sym known) first))

module _ (cs : Calls) (acyclic : is_acyclic cs ≡ true) (n : ℕ) (e : n ≡ bound_of cs) (ls ts ks : List ℕ) (next : ℕ) (h : IsFinding cs n ls ts ks next) where
  abbrev below : AreBelow n cs
  below = calls_below n cs (omega arith)

  module _ (y : ℕ) (lt : next < length ks) (is : y ≡ get_or ks next y) where
    pub turn_below : y < n
    turn_below = (known_left cs acyclic n below ls ts ks next h y lt is).0

    pub turn_levels : y < length ls
    turn_levels = let long = h.levels in let less = turn_below in omega arith

    module _ (v : ℕ) (v_is : v ≡ get_or ls y v) where
      at_is : v ≡ number_at ls y
      at_is = v_is ∙ any_default ls y v 0 turn_levels

      pub turn_small : v ≤ suc (length cs)
      turn_small =
          let same = at_is in
          let known = known_level cs acyclic n below ls ts ks next h y lt is in
          let most : level cs y ≤ suc (length cs) = chain_most cs (suc (length cs)) y in
          omega arith

      module _ (xs : List ℕ) (lists : List (List ℕ)) (are : lists ≡ filed (replicate n []) cs) (xs_is : xs ≡ slice_index_or lists y []) where
        next_level : v + 1 ≡ number_at ls y + 1
        next_level = ap (λ (k : ℕ). k + 1) at_is

        xs_are : xs ≡ callers_of cs y
        xs_are = xs_is ∙ ap (λ (vs : List (List ℕ)). slice_index_or vs y []) are ∙ callers_at n cs y below

        pub turn_inside : AllByRecursion (λ x. x < length ts) xs
        turn_inside = inside cs acyclic n below ls ts ks next h y lt is (v + 1) xs next_level xs_are

        module _ (us ws js : List ℕ) (eu : us ≡ risen_all ls (v + 1) xs) (ew : ws ≡ lowered_all ts xs) (ej : js ≡ noted_all ts ks xs) where
          pub turn_more : IsFinding cs n us ws js (next + 1)
          turn_more =
              subst (λ (zs : List ℕ). IsFinding cs n zs ws js (next + 1)) (sym eu)
              (subst (λ (zs : List ℕ). IsFinding cs n (risen_all ls (v + 1) xs) zs js (next + 1)) (sym ew)
              (subst (λ (zs : List ℕ). IsFinding cs n (risen_all ls (v + 1) xs) (lowered_all ts xs) zs (next + 1)) (sym ej)
              (found_more cs acyclic n below ls ts ks next h y lt is (v + 1) xs next_level xs_are)))

          pub turn_less : sum_by (λ t. t) ws + (length js - (next + 1)) < sum_by (λ t. t) ts + (length ks - next)
          turn_less =
              let less = found_less cs acyclic n below ls ts ks next h y lt is (v + 1) xs next_level xs_are in
              let a : sum_by (λ t. t) ws ≡ sum_by (λ t. t) (lowered_all ts xs) = ap (λ (zs : List ℕ). sum_by (λ t. t) zs) ew in
              let b : length js ≡ length (noted_all ts ks xs) = ap (λ (zs : List ℕ). length zs) ej in
              omega arith

  pub turn_end : length ks ≤ next → (x : ℕ) → x < bound_of cs → number_at ls x ≡ level cs x
  turn_end end x lt = all_exact cs acyclic n below ls ts ks next h end x (omega arith)
