-- The levels that are found are those of the laws.
use Rattle.std.proofs.Common.{◌≡◌, ℕ, zero, suc, ◌+◌, ◌-◌, ◌<◌, ◌≤◌, List, [], ◌∷◌, ◌++◌, length, take, get_or, replicate, Bool, true, false, refl, ap}
use Rattle.std.proofs.Common.{subst, sym, ◌∙◌, arith, eqb-true, eq-eqb, ne_eqb, ltb-true, ltb-false}
use Rattle.std.specs.Prelude.{max, nat_eq, nat_lt, not, ◌||◌, if◌then◌else◌, filter, slice_index_or, slice_set, sum_by}
use Rattle.std.specs.List.{AllByRecursion}
use Rattle.std.proofs.lemmas.List.{take_all, take-append-le, append_assoc, append-nil, length-append, length-replicate, length-set, get_or-set_same}
use Rattle.std.proofs.lemmas.List.{get_or-set_other}
use Rattle.il_laws.proofs.Grown.{all_to}
use Rattle.il_laws.proofs.Kept.{all_both}
use Rattle.plan_laws.specs.Orders.{greatest}
use Rattle.plan_laws.specs.Levels.{calls_from, chain, level, is_acyclic}
use Rattle.plan_laws.specs.Numbers as plan
use Rattle.plan_laws.proofs.Levels.{levels_fall}
use Rattle.inline_budget.specs.declared.choice.Choice.{Choice}
use Rattle.inline_budget.specs.Buckets.{put_in}
use Rattle.inline_budget.specs.Calls.{Calls, calls_of, only_if, calls_sum, callers_of, shares, number_at, has_number, IsOnce}
use Rattle.inline_budget.specs.Levelling.{filed, counted, lowered_all, risen_all, noted_all, zeros, bound_of}
use Rattle.inline_budget.proofs.Filed.{none, empty_at}
use Rattle.inline_budget.proofs.Sums.{sum_more, sum_none, none_sum, callers_all, all_callers}
use Rattle.inline_budget.proofs.Tables.{same_bad, set_is, has_here, has_take, once_take}
use Rattle.inline_budget.proofs.Passing.{lowered_at, risen_most, risen_grows, risen_hits, risen_length, IsNoted, Passed, pass_all}

-- ---- levels

module _ (cs : Calls) where
  more_chain : (n : ℕ) (xs : Calls) → ((q : ℕ) → chain cs n q ≤ chain cs (suc n) q)
      → greatest (λ c. suc (chain cs n c.callee)) xs ≤ greatest (λ c. suc (chain cs (suc n) c.callee)) xs
  more_chain n [] h = omega arith
  more_chain n (x ∷ xs) h = let one = h x.callee in let rest = more_chain n xs h in omega arith

  chain_up : (n q : ℕ) → chain cs n q ≤ chain cs (suc n) q
  chain_up zero q = omega arith
  chain_up (suc n) q = more_chain n (calls_from cs q) (λ x. chain_up n x)

  least_from : (b x : ℕ) (ys : Calls) → AllByRecursion (λ c. c.caller ≡ x → suc (level cs c.callee) ≤ b) ys
      → greatest (λ c. suc (chain cs (length cs) c.callee)) (filter (λ c. nat_eq c.caller x) ys) ≤ b
  least_from b x [] h = omega arith
  least_from b x (y ∷ ys) h = step (nat_eq y.caller x) refl (least_from b x ys h.1)
    where
      step : (k : Bool) → nat_eq y.caller x ≡ k → greatest (λ c. suc (chain cs (length cs) c.callee)) (filter (λ c. nat_eq c.caller x) ys) ≤ b
          → greatest (λ c. suc (chain cs (length cs) c.callee))
          (if k then y ∷ filter (λ c. nat_eq c.caller x) ys else filter (λ c. nat_eq c.caller x) ys) ≤ b
      step true e rest =
          let one : suc (level cs y.callee) ≤ b = h.0 (eqb-true y.caller x e) in
          let up : chain cs (length cs) y.callee ≤ level cs y.callee = chain_up (length cs) y.callee in
          omega arith
      step false e rest = rest

  -- a level is at most what is above all callees' levels
  pub level_least : (b x : ℕ) → AllByRecursion (λ c. c.caller ≡ x → suc (level cs c.callee) ≤ b) cs → level cs x ≤ b
  level_least b x h = least_from b x cs h

-- ---- what is done

abbrev pub undone : List ℕ → ℕ → ℕ
undone done z = only_if (not (has_number done z)) 1

undone_none : (b : Bool) → only_if (not b) 1 ≡ 0 → b ≡ true
undone_none true e = refl
undone_none false e = absurd (omega arith)

swap_eq : (a b : ℕ) → nat_eq a b ≡ nat_eq b a
swap_eq a b = by_test (nat_eq a b) refl
  where
    by_test : (k : Bool) → nat_eq a b ≡ k → k ≡ nat_eq b a
    by_test true e = sym (eq-eqb b a (sym (eqb-true a b e)))
    by_test false e = sym (ne_eqb b a (λ same. same_bad true a b e (sym same)))

-- one more is done
undone_more : (ks : List ℕ) (i d : ℕ) → IsOnce ks → i < length ks → (z : ℕ)
    → undone (take i ks) z ≡ undone (take (suc i) ks) z + only_if (nat_eq z (get_or ks i d)) 1
undone_more ks i d once lt z =
    step (has_number (take i ks) z) (nat_eq z (get_or ks i d)) (has_number (take (suc i) ks) z) refl refl
    (has_take ks i d z lt ∙ ap (λ (b : Bool). has_number (take i ks) z || b) (swap_eq (get_or ks i d) z))
  where
    step : (b e c : Bool) → has_number (take i ks) z ≡ b → nat_eq z (get_or ks i d) ≡ e → c ≡ (has_number (take i ks) z || nat_eq z (get_or ks i d))
        → only_if (not b) 1 ≡ only_if (not c) 1 + only_if e 1
    step true true c eb ee ec =
        let same = eqb-true z (get_or ks i d) ee in
        let bad : true ≡ false = sym eb ∙ ap (λ (k : ℕ). has_number (take i ks) k) same ∙ once_take ks i d once lt in
        absurd cc
    step true false c eb ee ec =
        let is : c ≡ true = ec ∙ ap (λ (k : Bool). k || nat_eq z (get_or ks i d)) eb in
        ap (λ (k : Bool). only_if (not k) 1 + 0) (sym is)
    step false true c eb ee ec =
        let is : c ≡ true = ec ∙ ap (λ (k : Bool). k || nat_eq z (get_or ks i d)) eb ∙ ee in
        ap (λ (k : Bool). only_if (not k) 1 + 1) (sym is)
    step false false c eb ee ec =
        let is : c ≡ false = ec ∙ ap (λ (k : Bool). k || nat_eq z (get_or ks i d)) eb ∙ ee in
        ap (λ (k : Bool). only_if (not k) 1 + 0) (sym is)

-- the calls name routines below a bound
abbrev pub AreBelow : ℕ → Calls → Type 0
AreBelow n cs = AllByRecursion (λ c. (c.caller < n) × (c.callee < n)) cs

-- ---- the tables while levels are found

pub record IsFinding (cs : Calls) (n : ℕ) (ls ts ks : List ℕ) (next : ℕ) : Type 0 where
  pub levels : length ls ≡ n
  pub size : length ts ≡ n
  pub left : (x : ℕ) → number_at ts x ≡ calls_sum cs (undone (take next ks)) x
  pub noted : IsNoted n ts ks
  pub most : (x : ℕ) → number_at ls x ≤ level cs x
  pub least : AllByRecursion (λ c. has_number (take next ks) c.callee ≡ true → suc (level cs c.callee) ≤ number_at ls c.caller) cs
  pub within : next ≤ length ks

module _ (cs : Calls) (acyclic : is_acyclic cs ≡ true) (n : ℕ) (below : AreBelow n cs) where
  module _ (ls ts ks : List ℕ) (next : ℕ) (h : IsFinding cs n ls ts ks next) where
    abbrev done : List ℕ
    done = take next ks

    -- a routine without calls that are left has its level
    pub exact : (x : ℕ) → number_at ts x ≡ 0 → number_at ls x ≡ level cs x
    exact x e =
        let nothing : calls_sum cs (undone done) x ≡ 0 = sym (h.left x) ∙ e in
        let all = all_to (λ (c : plan.Choice). (c.caller ≡ x → undone done c.callee ≡ 0)
        × (has_number done c.callee ≡ true → suc (level cs c.callee) ≤ number_at ls c.caller))
        (λ c. c.caller ≡ x → suc (level cs c.callee) ≤ number_at ls x) cs
        (λ c g same. subst (λ (k : ℕ). suc (level cs c.callee) ≤ number_at ls k) same (g.1 (undone_none (has_number done c.callee) (g.0 same))))
        (all_both (λ (c : plan.Choice). c.caller ≡ x → undone done c.callee ≡ 0)
        (λ c. has_number done c.callee ≡ true → suc (level cs c.callee) ≤ number_at ls c.caller) cs (none_sum (undone done) cs x nothing) h.least) in
        let low : level cs x ≤ number_at ls x = level_least cs (number_at ls x) x all in
        let high = h.most x in
        omega arith

    -- the routine whose turn it is
    module _ (y : ℕ) (lt : next < length ks) (is : y ≡ get_or ks next y) where
      pub known_left : (y < n) × (number_at ts y ≡ 0)
      known_left = h.noted.zero y (ap (λ (k : ℕ). has_number ks k) is ∙ has_here ks next y lt)

      pub known_level : number_at ls y ≡ level cs y
      known_level = exact y known_left.1

      module _ (l : ℕ) (xs : List ℕ) (l_is : l ≡ number_at ls y + 1) (xs_are : xs ≡ callers_of cs y) where
        abbrev after : List ℕ
        after = take (suc next) ks

        more : (z : ℕ) → undone done z ≡ undone after z + only_if (nat_eq z y) 1
        more z =
            undone_more ks next y h.noted.once lt z ∙ ap (λ (k : ℕ). undone after z + only_if (nat_eq z k) 1) (sym is)

        sums : (x : ℕ) → number_at ts x ≡ calls_sum cs (undone after) x + shares 1 x xs
        sums x =
            h.left x ∙ sum_more (undone done) (undone after) y 1 more cs x
            ∙ ap (λ (zs : List ℕ). calls_sum cs (undone after) x + shares 1 x zs) (sym xs_are)

        few : (x : ℕ) → shares 1 x xs ≤ number_at ts x
        few x = let e = sums x in omega arith

        xs_below : AllByRecursion (λ x. x < n) xs
        xs_below =
            subst (λ (zs : List ℕ). AllByRecursion (λ x. x < n) zs) (sym xs_are) (callers_all (λ x. x < n) y cs
            (all_to (λ (c : plan.Choice). (c.caller < n) × (c.callee < n)) (λ c. c.callee ≡ y → c.caller < n) cs (λ c g e. g.0) below))

        pub inside : AllByRecursion (λ x. x < length ts) xs
        inside = subst (λ (k : ℕ). AllByRecursion (λ x. x < k) xs) (sym h.size) xs_below

        inside_levels : AllByRecursion (λ x. x < length ls) xs
        inside_levels = subst (λ (k : ℕ). AllByRecursion (λ x. x < k) xs) (sym h.levels) xs_below

        pub passed : Passed n ts ks (lowered_all ts xs) (noted_all ts ks xs)
        passed = pass_all n xs ts ks h.size xs_below few h.noted

        front_same : take (suc next) (noted_all ts ks xs) ≡ after
        front_same =
            ap (λ (js : List ℕ). take (suc next) js) passed.front.is ∙ take-append-le (suc next) ks passed.front.more (omega arith)

        above : AllByRecursion (λ x. l ≤ level cs x) xs
        above =
            subst (λ (zs : List ℕ). AllByRecursion (λ x. l ≤ level cs x) zs) (sym xs_are) (callers_all (λ x. l ≤ level cs x) y cs
            (all_to (λ (c : plan.Choice). level cs c.callee < level cs c.caller) (λ c. c.callee ≡ y → l ≤ level cs c.caller) cs
            (λ c falls e. (let there : level cs c.callee ≡ level cs y = ap (λ (k : ℕ). level cs k) e in
            let exactly = known_level in omega arith)) (levels_fall cs acyclic)))

        abbrev risen_levels : List ℕ
        risen_levels = risen_all ls l xs

        hits : AllByRecursion (λ c. c.callee ≡ y → l ≤ number_at risen_levels c.caller) cs
        hits =
            all_callers (λ x. l ≤ number_at risen_levels x) y cs
            (subst (λ (zs : List ℕ). AllByRecursion (λ x. l ≤ number_at risen_levels x) zs) xs_are (risen_hits l xs ls inside_levels))

        least_now : AllByRecursion (λ c. has_number (take (suc next) (noted_all ts ks xs)) c.callee ≡ true
            → suc (level cs c.callee) ≤ number_at risen_levels c.caller) cs
        least_now =
            all_to (λ (c : plan.Choice). (has_number done c.callee ≡ true → suc (level cs c.callee) ≤ number_at ls c.caller)
            × (c.callee ≡ y → l ≤ number_at risen_levels c.caller))
            (λ c. has_number (take (suc next) (noted_all ts ks xs)) c.callee ≡ true → suc (level cs c.callee) ≤ number_at risen_levels c.caller) cs
            (λ c g has. one c g.0 g.1 (has_number done c.callee) (nat_eq y c.callee) refl refl
            (ap (λ (b : Bool). has_number done c.callee || b) (ap (λ (k : ℕ). nat_eq k c.callee) is)
            ∙ sym (has_take ks next y c.callee lt) ∙ ap (λ (js : List ℕ). has_number js c.callee) (sym front_same) ∙ has))
            (all_both (λ (c : plan.Choice). has_number done c.callee ≡ true → suc (level cs c.callee) ≤ number_at ls c.caller)
            (λ c. c.callee ≡ y → l ≤ number_at risen_levels c.caller) cs h.least hits)
          where
            one : (c : plan.Choice) → (has_number done c.callee ≡ true → suc (level cs c.callee) ≤ number_at ls c.caller)
                → (c.callee ≡ y → l ≤ number_at risen_levels c.caller) → (b e : Bool) → has_number done c.callee ≡ b → nat_eq y c.callee ≡ e
                → (has_number done c.callee || nat_eq y c.callee) ≡ true → suc (level cs c.callee) ≤ number_at risen_levels c.caller
            one c old new true e eb ee has =
                let low = old eb in
                let grows : number_at ls c.caller ≤ number_at risen_levels c.caller = risen_grows l xs ls c.caller inside_levels in
                omega arith
            one c old new false true eb ee has =
                let same : y ≡ c.callee = eqb-true y c.callee ee in
                let low = new (sym same) in
                let there : level cs c.callee ≡ level cs y = ap (λ (k : ℕ). level cs k) (sym same) in
                let exactly = known_level in
                omega arith
            one c old new false false eb ee has =
                let bad : true ≡ false = sym has ∙ ap (λ (b : Bool). b || nat_eq y c.callee) eb ∙ ee in
                absurd cc

        found_suc : IsFinding cs n risen_levels (lowered_all ts xs) (noted_all ts ks xs) (suc next)
        found_suc =
            record {
              levels = risen_length l xs ls ∙ h.levels;
              size = passed.size;
              left = λ x.
                  (let low = lowered_at xs ts x inside few in
                  let e = sums x in
                  let same : number_at (lowered_all ts xs) x ≡ calls_sum cs (undone after) x = omega arith in
                  same ∙ ap (λ (js : List ℕ). calls_sum cs (undone js) x) (sym front_same));
              noted = passed.noted;
              most = risen_most l (level cs) xs ls inside_levels h.most above;
              least = least_now;
              within = (let e = ap (λ (js : List ℕ). length js) passed.front.is in let less = passed.less in long);
            }
          where
            long : suc next ≤ length (noted_all ts ks xs)
            long =
                let e : length (noted_all ts ks xs) ≡ length (ks ++ passed.front.more) = ap (λ (js : List ℕ). length js) passed.front.is in
                let f : length (ks ++ passed.front.more) ≡ length ks + length passed.front.more = length-append ks passed.front.more in
                omega arith

        -- one more is done
        pub found_more : IsFinding cs n (risen_all ls l xs) (lowered_all ts xs) (noted_all ts ks xs) (next + 1)
        found_more =
            let same : suc next ≡ next + 1 = omega arith in
            subst (λ (k : ℕ). IsFinding cs n (risen_all ls l xs) (lowered_all ts xs) (noted_all ts ks xs) k) same found_suc

        -- the work that is left is less
        pub found_less : sum_by (λ t. t) (lowered_all ts xs) + (length (noted_all ts ks xs) - (next + 1)) < sum_by (λ t. t) ts + (length ks - next)
        found_less =
            let less = passed.less in
            let long : next + 1 ≤ length (noted_all ts ks xs) = found_more.within in
            omega arith

    -- where no routine is left to take its turn, all are known
    module _ (end : length ks ≤ next) where
      all_done : done ≡ ks
      all_done = take_all next ks end

      all_known : (m x : ℕ) → x < n → level cs x < m → has_number ks x ≡ true
      all_known zero x lt less = absurd (omega arith)
      all_known (suc m) x lt less =
          h.noted.ready x lt (h.left x ∙ sum_none (undone done) cs x
          (all_to (λ (c : plan.Choice). (level cs c.callee < level cs c.caller) × ((c.caller < n) × (c.callee < n)))
          (λ c. c.caller ≡ x → undone done c.callee ≡ 0) cs
          (λ c g same.
          (let falls = g.0 in
          let there : level cs c.caller ≡ level cs x = ap (λ (k : ℕ). level cs k) same in
          ap (λ (b : Bool). only_if (not b) 1) (ap (λ (js : List ℕ). has_number js c.callee) all_done ∙ all_known m c.callee g.1.1 (omega arith))))
          (all_both (λ (c : plan.Choice). level cs c.callee < level cs c.caller) (λ c. (c.caller < n) × (c.callee < n)) cs
          (levels_fall cs acyclic) below)))

      pub all_exact : (x : ℕ) → x < n → number_at ls x ≡ level cs x
      all_exact x lt = exact x (h.noted.zero x (all_known (suc (level cs x)) x lt (omega arith))).1

-- ---- at the start

pub callers_below : (n : ℕ) (cs : List Choice) → bound_of (calls_of cs) ≤ n → AllByRecursion (λ c. c.caller < n) cs
callers_below n [] le = tt
callers_below n (c ∷ cs) le =
    let most : max (max (suc c.caller) (suc c.callee)) (bound_of (calls_of cs)) ≤ n = le in
    (omega arith, callers_below n cs (omega arith))

pub callees_below : (n : ℕ) (cs : List Choice) → bound_of (calls_of cs) ≤ n → AllByRecursion (λ c. c.callee < n) cs
callees_below n [] le = tt
callees_below n (c ∷ cs) le =
    let most : max (max (suc c.caller) (suc c.callee)) (bound_of (calls_of cs)) ≤ n = le in
    (omega arith, callees_below n cs (omega arith))

pub calls_below : (n : ℕ) (cs : Calls) → bound_of cs ≤ n → AreBelow n cs
calls_below n [] le = tt
calls_below n (c ∷ cs) le =
    let most : max (max (suc c.caller) (suc c.callee)) (bound_of cs) ≤ n = le in
    ((omega arith, omega arith), calls_below n cs (omega arith))

pub zero_at : (n x : ℕ) → number_at (replicate n 0) x ≡ 0
zero_at zero x = refl
zero_at (suc n) zero = refl
zero_at (suc n) (suc x) = zero_at n x

counted_at : (cs : Calls) (ts : List ℕ) (x : ℕ) → AllByRecursion (λ c. (c.caller < length ts) × (c.callee < length ts)) cs
    → number_at (counted ts cs) x ≡ number_at ts x + calls_sum cs (λ z. 1) x
counted_at [] ts x h = omega arith
counted_at (c ∷ cs) ts x h =
    let us = slice_set ts c.caller (number_at ts c.caller + 1) in
    let inside = subst (λ (k : ℕ). AreBelow k cs) (sym (length-set ts c.caller (number_at ts c.caller + 1))) h.1 in
    step (nat_eq c.caller x) refl (counted_at cs us x inside)
  where
    step : (b : Bool) → nat_eq c.caller x ≡ b
        → number_at (counted (slice_set ts c.caller (number_at ts c.caller + 1)) cs) x
        ≡ number_at (slice_set ts c.caller (number_at ts c.caller + 1)) x + calls_sum cs (λ z. 1) x
        → number_at (counted (slice_set ts c.caller (number_at ts c.caller + 1)) cs) x ≡ number_at ts x + (only_if b 1 + calls_sum cs (λ z. 1) x)
    step true e ih =
        let at : number_at (slice_set ts c.caller (number_at ts c.caller + 1)) x ≡ number_at ts c.caller + 1
        = set_is ts c.caller (number_at ts c.caller + 1) x h.0.0 ∙ ap (λ (k : Bool). if k then number_at ts c.caller + 1 else number_at ts x) e in
        let there : number_at ts c.caller ≡ number_at ts x = ap (λ (k : ℕ). number_at ts k) (eqb-true c.caller x e) in
        omega arith
    step false e ih =
        let at : number_at (slice_set ts c.caller (number_at ts c.caller + 1)) x ≡ number_at ts x
        = set_is ts c.caller (number_at ts c.caller + 1) x h.0.0 ∙ ap (λ (k : Bool). if k then number_at ts c.caller + 1 else number_at ts x) e in
        omega arith

pub counted_length : (cs : Calls) (ts : List ℕ) → length (counted ts cs) ≡ length ts
counted_length [] ts = refl
counted_length (c ∷ cs) ts =
    counted_length cs (slice_set ts c.caller (number_at ts c.caller + 1)) ∙ length-set ts c.caller (number_at ts c.caller + 1)

-- what lists of numbers have at a place
abbrev pub list_at : List (List ℕ) → ℕ → List ℕ
list_at ls y = slice_index_or ls y []

pub put_at : (ls : List (List ℕ)) (x v z : ℕ) → x < length ls
    → list_at (put_in ls x v) z ≡ (if nat_eq x z then list_at ls x ++ v ∷ [] else list_at ls z)
put_at ls x v z lt = by_test (nat_eq x z) refl
  where
    by_test : (b : Bool) → nat_eq x z ≡ b → list_at (put_in ls x v) z ≡ (if b then list_at ls x ++ v ∷ [] else list_at ls z)
    by_test true e =
        ap (λ (k : ℕ). list_at (put_in ls x v) k) (sym (eqb-true x z e)) ∙ get_or-set_same ls x (list_at ls x ++ v ∷ []) [] lt
    by_test false e = get_or-set_other ls x z (list_at ls x ++ v ∷ []) [] (λ same. same_bad true x z e (sym same))

filed_at : (cs : Calls) (ls : List (List ℕ)) (y : ℕ) → AreBelow (length ls) cs → list_at (filed ls cs) y ≡ list_at ls y ++ callers_of cs y
filed_at [] ls y h = sym (append-nil (list_at ls y))
filed_at (c ∷ cs) ls y h =
    let inside = subst (λ (k : ℕ). AreBelow k cs) (sym (length-set ls c.callee (list_at ls c.callee ++ c.caller ∷ []))) h.1 in
    filed_at cs (put_in ls c.callee c.caller) y inside
    ∙ ap (λ (xs : List ℕ). xs ++ callers_of cs y) (put_at ls c.callee c.caller y h.0.1)
    ∙ step (nat_eq c.callee y) refl
  where
    step : (b : Bool) → nat_eq c.callee y ≡ b
        → (if b then list_at ls c.callee ++ c.caller ∷ [] else list_at ls y) ++ callers_of cs y
        ≡ list_at ls y ++ (if b then c.caller ∷ callers_of cs y else callers_of cs y)
    step true e =
        append_assoc (list_at ls c.callee) (c.caller ∷ []) (callers_of cs y)
        ∙ ap (λ (k : ℕ). list_at ls k ++ c.caller ∷ callers_of cs y) (eqb-true c.callee y e)
    step false e = refl

-- the lists that are read are the callers
pub callers_at : (n : ℕ) (cs : Calls) (y : ℕ) → AreBelow n cs → list_at (filed (replicate n []) cs) y ≡ callers_of cs y
callers_at n cs y h =
    filed_at cs (replicate n []) y (subst (λ (k : ℕ). AreBelow k cs) (sym (length-replicate n none)) h)
    ∙ ap (λ (xs : List ℕ). xs ++ callers_of cs y) (empty_at n y)

pub filed_length : (cs : Calls) (ls : List (List ℕ)) → length (filed ls cs) ≡ length ls
filed_length [] ls = refl
filed_length (c ∷ cs) ls = filed_length cs (put_in ls c.callee c.caller) ∙ length-set ls c.callee (list_at ls c.callee ++ c.caller ∷ [])

zeros_low : (ts : List ℕ) (k z : ℕ) → z < k → has_number (zeros k ts) z ≡ false
zeros_low [] k z lt = refl
zeros_low (t ∷ ts) k z lt = step (nat_eq t 0) (zeros_low ts (suc k) z (omega arith))
  where
    step : (b : Bool) → has_number (zeros (suc k) ts) z ≡ false → has_number (if b then k ∷ zeros (suc k) ts else zeros (suc k) ts) z ≡ false
    step true ih = ap (λ (b : Bool). b || has_number (zeros (suc k) ts) z) (ne_eqb k z (λ same. absurd (omega arith))) ∙ ih
    step false ih = ih

zeros_has : (ts : List ℕ) (k i : ℕ) → has_number (zeros k ts) (k + i) ≡ nat_eq (slice_index_or ts i 1) 0
zeros_has [] k i = refl
zeros_has (t ∷ ts) k zero = step (nat_eq t 0)
  where
    here : nat_eq k (k + 0) ≡ true
    here = eq-eqb k (k + 0) (omega arith)

    step : (b : Bool) → has_number (if b then k ∷ zeros (suc k) ts else zeros (suc k) ts) (k + 0) ≡ b
    step true = ap (λ (b : Bool). b || has_number (zeros (suc k) ts) (k + 0)) here
    step false = zeros_low ts (suc k) (k + 0) (omega arith)
zeros_has (t ∷ ts) k (suc i) =
    let next : suc k + i ≡ k + suc i = omega arith in
    step (nat_eq t 0) (ap (λ (z : ℕ). has_number (zeros (suc k) ts) z) (sym next) ∙ zeros_has ts (suc k) i)
  where
    step : (b : Bool) → has_number (zeros (suc k) ts) (k + suc i) ≡ nat_eq (slice_index_or ts i 1) 0
        → has_number (if b then k ∷ zeros (suc k) ts else zeros (suc k) ts) (k + suc i) ≡ nat_eq (slice_index_or ts i 1) 0
    step true ih = ap (λ (b : Bool). b || has_number (zeros (suc k) ts) (k + suc i)) (ne_eqb k (k + suc i) (λ same. absurd (omega arith))) ∙ ih
    step false ih = ih

zeros_once : (ts : List ℕ) (k : ℕ) → IsOnce (zeros k ts)
zeros_once [] k = tt
zeros_once (t ∷ ts) k = step (nat_eq t 0) (zeros_once ts (suc k))
  where
    step : (b : Bool) → IsOnce (zeros (suc k) ts) → IsOnce (if b then k ∷ zeros (suc k) ts else zeros (suc k) ts)
    step true ih = (zeros_low ts (suc k) k (omega arith), ih)
    step false ih = ih

pub any_default : (ts : List ℕ) (i d e : ℕ) → i < length ts → slice_index_or ts i d ≡ slice_index_or ts i e
any_default [] i d e lt = absurd (omega arith)
any_default (t ∷ ts) zero d e lt = refl
any_default (t ∷ ts) (suc i) d e lt = any_default ts i d e (omega arith)

past_end : (ts : List ℕ) (i d : ℕ) → length ts ≤ i → slice_index_or ts i d ≡ d
past_end [] i d le = refl
past_end (t ∷ ts) zero d le = absurd (omega arith)
past_end (t ∷ ts) (suc i) d le = past_end ts i d (omega arith)

zeros_noted : (ts : List ℕ) → IsNoted (length ts) ts (zeros 0 ts)
zeros_noted ts =
    record {
      zero = λ z has. here z (let same : 0 + z ≡ z = omega arith in
          sym (zeros_has ts 0 z) ∙ ap (λ (k : ℕ). has_number (zeros 0 ts) k) same ∙ has);
      ready = λ z lt none. (let same : 0 + z ≡ z = omega arith in
          ap (λ (k : ℕ). has_number (zeros 0 ts) k) (sym same) ∙ zeros_has ts 0 z
          ∙ eq-eqb (slice_index_or ts z 1) 0 (any_default ts z 1 0 lt ∙ none));
      once = zeros_once ts 0;
    }
  where
    by_place : (z : ℕ) (b : Bool) → nat_lt z (length ts) ≡ b → slice_index_or ts z 1 ≡ 0 → z < length ts
    by_place z true e zero_here = ltb-true z (length ts) e
    by_place z false e zero_here =
        let le : length ts ≤ z = ltb-false z (length ts) e in
        let past = past_end ts z 1 le in
        absurd (omega arith)

    here : (z : ℕ) → nat_eq (slice_index_or ts z 1) 0 ≡ true → (z < length ts) × (number_at ts z ≡ 0)
    here z e =
        let zero_here = eqb-true (slice_index_or ts z 1) 0 e in
        let lt = by_place z (nat_lt z (length ts)) refl zero_here in
        (lt, any_default ts z 0 1 lt ∙ zero_here)

nothing_known : (cs : Calls) (ls : List ℕ) → AllByRecursion (λ c. has_number [] c.callee ≡ true → suc (level cs c.callee) ≤ number_at ls c.caller) cs
nothing_known cs ls = every cs
  where
    every : (ds : Calls) → AllByRecursion (λ c. has_number [] c.callee ≡ true → suc (level cs c.callee) ≤ number_at ls c.caller) ds
    every [] = tt
    every (d ∷ ds) = (λ bad. absurd cc, every ds)

first_left : (n : ℕ) (cs : Calls) → AreBelow n cs → (x : ℕ) → number_at (counted (replicate n 0) cs) x ≡ calls_sum cs (λ z. 1) x
first_left n cs below x =
    let long : length (replicate n 0) ≡ n = length-replicate n 0 in
    let is : number_at (counted (replicate n 0) cs) x ≡ number_at (replicate n 0) x + calls_sum cs (λ z. 1) x
    = counted_at cs (replicate n 0) x (subst (λ (k : ℕ). AreBelow k cs) (sym long) below) in
    let nothing : number_at (replicate n 0) x ≡ 0 = zero_at n x in
    omega arith

pub found_first : (n : ℕ) (cs : Calls) → AreBelow n cs
    → IsFinding cs n (replicate n 0) (counted (replicate n 0) cs) (zeros 0 (counted (replicate n 0) cs)) 0
found_first n cs below =
    record {
      levels = length-replicate n 0;
      size = size;
      left = first_left n cs below;
      noted = subst (λ (k : ℕ). IsNoted k (counted (replicate n 0) cs) (zeros 0 (counted (replicate n 0) cs))) size
          (zeros_noted (counted (replicate n 0) cs));
      most = λ x. (let e = zero_at n x in omega arith);
      least = nothing_known cs (replicate n 0);
      within = omega arith;
    }
  where
    size : length (counted (replicate n 0) cs) ≡ n
    size = counted_length cs (replicate n 0) ∙ length-replicate n 0
