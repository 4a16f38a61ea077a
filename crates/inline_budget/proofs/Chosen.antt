-- The sites in turn: what is accepted are the calls of the laws' choice.
use Rattle.std.proofs.Common.{◌≡◌, ℕ, suc, ◌+◌, ◌*◌, ◌<◌, ◌≤◌, List, [], ◌∷◌, ◌++◌, map, length, drop, Bool, true, false, refl, ap, subst, sym, ◌∙◌}
use Rattle.std.proofs.Common.{arith, eqb-true, eq-eqb, ne_eqb, leb-true}
use Rattle.std.specs.Prelude.{◌^◌, ◌&&◌, ◌||◌, nat_eq, nat_le, if◌then◌else◌, slice_index_or, Option, Some, None}
use Rattle.std.specs.List.{AllByRecursion, list_all}
use Rattle.std.proofs.Math.Nat.{pow-le-pow_left}
use Rattle.std.proofs.lemmas.List.{drop_all, length-set}
use Rattle.list_laws.proofs.Elements.{all_drop}
use Rattle.il_core.proofs.Found.{found_all}
use Rattle.il_laws.specs.Edges.{one_if}
use Rattle.il_laws.proofs.Grown.{all_to}
use Rattle.il_laws.proofs.SpliceBlocks.{all_append}
use Rattle.plan_laws.specs.Choosing.{accepted, choice, chosen_site, is_candidate, may_inline, ranked_sites}
use Rattle.plan_laws.specs.Levels.{is_acyclic}
use Rattle.plan_laws.specs.Numbers as plan
use Rattle.plan_laws.specs.Numbers.{InlineSite, is_chosen}
use Rattle.plan_laws.specs.Summary.{CallSite, Summary, cost_of, summary_at}
use Rattle.inline_budget.specs.declared.numbers.Numbers.{Numbers}
use Rattle.inline_budget.specs.Attempts.{AreFew, numbers_at, grown, squares}
use Rattle.inline_budget.specs.Buckets.{put_in}
use Rattle.inline_budget.specs.Calls.{Calls, callers_of, number_at}
use Rattle.inline_budget.specs.Following.{AreBrief, AreCallers, HasCalls, IsIdle, Grows, GrowsNot}
use Rattle.inline_budget.specs.Linked.{AreLinked}
use Rattle.inline_budget.specs.Ranking.{bare}
use Rattle.inline_budget.specs.Tables.{brought}
use Rattle.inline_budget.proofs.Sums.{sum_none, callers_all, callers_append}
use Rattle.inline_budget.proofs.Tables.{same_bad, or_false}
use Rattle.inline_budget.proofs.Levelled.{put_at}
use Rattle.inline_budget.proofs.Squares.{sum_most}
use Rattle.inline_budget.proofs.Inlined as inlined
use Rattle.inline_budget.proofs.Inlined.{AreOnce, IsSite}
use Rattle.inline_budget.proofs.Decided.{AreSums, IsBrought, IsCandidate, size_measure, register_measure, array_measure, element_measure}
use Rattle.inline_budget.proofs.Decided.{refused_may_not, taken_may, taken_sums}
use Rattle.inline_budget.proofs.Filled.{AreExtras, AreOwn, extra_is, own_cost, own_sums}
use Rattle.inline_budget.proofs.Ordered.{IsCallSite, count_at, is_at, ranked_once}

-- ---- what is known of arguments doesn't matter

pub accepted_bare : (ss : List Summary) (main limit : ℕ) (cs : Calls) (xs : List CallSite)
    → accepted ss main limit cs (map bare xs) ≡ accepted ss main limit cs xs
accepted_bare ss main limit cs [] = refl
accepted_bare ss main limit cs (x ∷ xs) =
    step (is_candidate main x && may_inline ss limit (cs ++ chosen_site x ∷ [])) (accepted_bare ss main limit (cs ++ chosen_site x ∷ []) xs)
    (accepted_bare ss main limit cs xs)
  where
    step : (b : Bool)
        → accepted ss main limit (cs ++ chosen_site x ∷ []) (map bare xs) ≡ accepted ss main limit (cs ++ chosen_site x ∷ []) xs
        → accepted ss main limit cs (map bare xs) ≡ accepted ss main limit cs xs
        → (if b then accepted ss main limit (cs ++ chosen_site x ∷ []) (map bare xs) else accepted ss main limit cs (map bare xs))
        ≡ (if b then accepted ss main limit (cs ++ chosen_site x ∷ []) xs else accepted ss main limit cs xs)
    step true e g = e
    step false e g = g

-- ---- where the routines cost more than the limit

callee_least : (n : plan.Numbers) (o : Option Summary) (f : Summary → plan.Numbers) → n.size ≤ (plan.with_callee n o f).size
callee_least n None f = omega arith
callee_least n (Some s) f = omega arith

calls_least : (ss : List Summary) (f : Summary → plan.Numbers) (n : plan.Numbers) (xs : List InlineSite) → n.size ≤ (plan.with_calls ss f n xs).size
calls_least ss f n [] = omega arith
calls_least ss f n (x ∷ xs) =
    let one = callee_least n (summary_at ss x.callee) f in
    let rest = calls_least ss f (plan.with_callee n (summary_at ss x.callee) f) xs in
    omega arith

own_least : (ss : List Summary) (cs : Calls) (s : Summary) → s.size ≤ (plan.inlined_numbers ss cs s).size
own_least ss cs s = calls_least ss (plan.numbers ss cs (length cs)) (plan.own s) (plan.inline_sites cs s.pid s.sites)

cost_least : (ss : List Summary) (cs : Calls) → cost_of ss ≤ plan.cost_after ss cs
cost_least ss cs = sum_most (λ s. s.size ^ 2) (λ s. (plan.inlined_numbers ss cs s).size ^ 2) ss (each ss)
  where
    each : (xs : List Summary) → AllByRecursion (λ s. s.size ^ 2 ≤ (plan.inlined_numbers ss cs s).size ^ 2) xs
    each [] = tt
    each (x ∷ xs) = (pow-le-pow_left (own_least ss cs x) 2, each xs)

module _ (ss : List Summary) (main limit : ℕ) (less : limit < cost_of ss) where
  never : (cs : Calls) → may_inline ss limit cs ≡ false
  never cs = ap (λ (b : Bool). (is_acyclic cs && list_all (λ s. plan.is_within (plan.inlined_numbers ss cs s)) ss) && b)
      (above (nat_le (plan.cost_after ss cs) limit) refl)
      ∙ and_last (is_acyclic cs && list_all (λ s. plan.is_within (plan.inlined_numbers ss cs s)) ss)
    where
      and_last : (k : Bool) → (k && false) ≡ false
      and_last true = refl
      and_last false = refl

      above : (b : Bool) → nat_le (plan.cost_after ss cs) limit ≡ b → b ≡ false
      above true e = let le = leb-true (plan.cost_after ss cs) limit e in let least = cost_least ss cs in absurd (omega arith)
      above false e = refl

  none_accepted : (xs : List CallSite) → accepted ss main limit [] xs ≡ []
  none_accepted [] = refl
  none_accepted (x ∷ xs) =
      ap (λ (b : Bool). if is_candidate main x && b then accepted ss main limit (chosen_site x ∷ []) xs else accepted ss main limit [] xs)
      (never (chosen_site x ∷ []))
      ∙ step (is_candidate main x) (none_accepted xs)
    where
      step : (b : Bool) → accepted ss main limit [] xs ≡ []
          → (if b && false then accepted ss main limit (chosen_site x ∷ []) xs else accepted ss main limit [] xs) ≡ []
      step true e = e
      step false e = e

  pub none_chosen : choice ss main limit ≡ []
  none_chosen = none_accepted (ranked_sites ss)

-- ---- a call once more

eq_swap : (a b : ℕ) → nat_eq a b ≡ nat_eq b a
eq_swap a b = step (nat_eq a b) refl
  where
    step : (k : Bool) → nat_eq a b ≡ k → k ≡ nat_eq b a
    step true e = sym (eq-eqb b a (sym (eqb-true a b e)))
    step false e = sym (ne_eqb b a (λ same. same_bad true a b e (sym same)))

or_none : (b : Bool) → (b || false) ≡ b
or_none true = refl
or_none false = refl

or_shift : (a b c : Bool) → (a || (b || c)) ≡ ((a || b) || c)
or_shift true b c = refl
or_shift false b c = refl

chosen_append : (cs : Calls) (c : plan.Choice) (a k : ℕ) → is_chosen (cs ++ c ∷ []) a k ≡ (is_chosen cs a k || (nat_eq c.caller a && nat_eq c.site k))
chosen_append [] c a k = or_none (nat_eq c.caller a && nat_eq c.site k)
chosen_append (d ∷ cs) c a k =
    ap (λ (b : Bool). (nat_eq d.caller a && nat_eq d.site k) || b) (chosen_append cs c a k)
    ∙ or_shift (nat_eq d.caller a && nat_eq d.site k) (is_chosen cs a k) (nat_eq c.caller a && nat_eq c.site k)

once_append : (cs : Calls) (c : plan.Choice) → AreOnce cs → is_chosen cs c.caller c.site ≡ false → AreOnce (cs ++ c ∷ [])
once_append [] c h e = (refl, tt)
once_append (d ∷ cs) c h e =
    let both = or_false (nat_eq d.caller c.caller && nat_eq d.site c.site) (is_chosen cs c.caller c.site) e in
    let swapped : (nat_eq c.caller d.caller && nat_eq c.site d.site) ≡ false
    = ap (λ (b : Bool). b && nat_eq c.site d.site) (eq_swap c.caller d.caller)
    ∙ ap (λ (b : Bool). nat_eq d.caller c.caller && b) (eq_swap c.site d.site) ∙ both.0 in (
      chosen_append cs c d.caller d.site ∙ ap (λ (b : Bool). b || (nat_eq c.caller d.caller && nat_eq c.site d.site)) h.0 ∙ swapped,
      once_append cs c h.1 both.1,
    )

either_one : (p q : Bool) → one_if (p || q) ≤ one_if p + one_if q
either_one true q = omega arith
either_one false q = omega arith

-- ---- the squares of numbers that grew

squares_grown : (T : List Numbers) (by : Numbers) (ts : List ℕ) (U : List Numbers) → length U ≡ length T → length ts ≡ length T
    → ((x : ℕ) → numbers_at U x ≡ grown (numbers_at T x) by (number_at ts x)) → squares U 0 [] ≡ squares T by.size ts
squares_grown [] by ts [] eu et h = refl
squares_grown [] by ts (u ∷ U) eu et h = absurd (omega arith)
squares_grown (n ∷ T) by ts [] eu et h = absurd (omega arith)
squares_grown (n ∷ T) by [] (u ∷ U) eu et h = absurd (omega arith)
squares_grown (n ∷ T) by (t ∷ ts) (u ∷ U) eu et h =
    let first : u ≡ grown n by t = h 0 in
    let one : u.size ^ 2 ≡ (n.size + by.size * t) ^ 2 = ap (λ (m : Numbers). m.size ^ 2) first in
    let rest = squares_grown T by ts U (omega arith) (omega arith) (λ x. h (suc x)) in
    omega arith

-- ---- the loop over the sites

pub record IsChoosing (ss : List Summary) (main limit : ℕ) (ys : List CallSite) (i : ℕ) (cs : Calls) (T : List Numbers) (lists : List (List ℕ))
    (ts hs ks : List ℕ) (room : ℕ) : Type 0 where
  pub idle : IsIdle T ts hs ks
  pub callers : AreCallers cs lists
  pub listed : length lists ≡ length T
  pub below : AllByRecursion (λ s. s.pid < length T) ss
  pub sums : AreSums ss cs T
  pub budget : room + squares T 0 [] ≡ limit
  pub sites : AllByRecursion (IsSite ss) cs
  pub once : AreOnce cs
  pub left : (a k : ℕ) → one_if (is_chosen cs a k) + count_at a k (drop i ys) ≤ 1
  pub rest : accepted ss main limit cs (drop i ys) ≡ choice ss main limit

module _ (ss : List Summary) (linked : AreLinked ss) (main limit : ℕ) where
  pub choosing_first : (ys : List CallSite) → ys ≡ map bare (ranked_sites ss) → (T : List Numbers) (lists : List (List ℕ)) (ts hs ks : List ℕ) (room : ℕ)
      → AreOwn ss T → AllByRecursion (λ s. s.pid < length T) ss → IsIdle T ts hs ks → length lists ≡ length T
      → ((y : ℕ) → slice_index_or lists y [] ≡ []) → room + cost_of ss ≡ limit → IsChoosing ss main limit ys 0 [] T lists ts hs ks room
  choosing_first ys is T lists ts hs ks room own below idle listed none e =
      let cost = own_cost ss T own linked.apart below in
      record {
        idle = idle;
        callers = none;
        listed = listed;
        below = below;
        sums = own_sums ss T own;
        budget = omega arith;
        sites = tt;
        once = tt;
        left = λ a k. (let one = ranked_once a k ss linked.apart in
            let same : count_at a k ys ≡ count_at a k (map bare (ranked_sites ss)) = ap (count_at a k) is in omega arith);
        rest = ap (accepted ss main limit []) is ∙ accepted_bare ss main limit [] (ranked_sites ss);
      }

  module _ (ys : List CallSite) (good : AllByRecursion (IsCallSite ss) ys) (es : List ℕ) (extras : AreExtras ss es) (i : ℕ) (cs : Calls) (T : List Numbers)
      (lists : List (List ℕ)) (ts hs ks : List ℕ) (room : ℕ) (h : IsChoosing ss main limit ys i cs T lists ts hs ks room) where
    pub below_of : (pid : ℕ) (s : Summary) → summary_at ss pid ≡ Some s → pid < length T
    below_of pid s e = let both = found_all (λ q. q.pid) (λ q. q.pid < length T) pid ss s h.below e in let lt = both.0 in let same = both.1 in omega arith

    pub callers_inside : (y : ℕ) → AllByRecursion (λ x. x < length T) (slice_index_or lists y [])
    callers_inside y =
        subst (AllByRecursion (λ x. x < length T)) (sym (h.callers y))
        (callers_all (λ x. x < length T) y cs (all_to (IsSite ss) (λ c. c.callee ≡ y → c.caller < length T) cs
        (λ c site same. below_of c.caller site.caller site.caller_found) h.sites))

    pub has_calls : HasCalls lists
    has_calls = record { calls = cs; are = h.callers }

    pub choosing_end : length ys ≤ i → cs ≡ choice ss main limit
    choosing_end end = ap (accepted ss main limit cs) (sym (drop_all i ys end)) ∙ h.rest

    module _ (x : CallSite) (split : drop i ys ≡ x ∷ drop (i + 1) ys) where
      abbrev c : plan.Choice
      c = chosen_site x

      abbrev q : ℕ
      q = x.site.callee

      here : IsCallSite ss x
      here = (subst (AllByRecursion (IsCallSite ss)) split (all_drop (IsCallSite ss) i ys good)).0

      pub caller_inside : x.caller < length T
      caller_inside = below_of x.caller here.caller here.caller_found

      pub callee_inside : q < length T
      callee_inside = below_of q here.callee here.found

      turn : accepted ss main limit cs (x ∷ drop (i + 1) ys) ≡ choice ss main limit
      turn = ap (accepted ss main limit cs) (sym split) ∙ h.rest

      left_is : (a k : ℕ) → one_if (is_chosen cs a k) + (one_if (is_at a k x) + count_at a k (drop (i + 1) ys)) ≤ 1
      left_is a k = subst (λ (zs : List CallSite). one_if (is_chosen cs a k) + count_at a k zs ≤ 1) split (h.left a k)

      -- ---- it isn't taken

      not_taken : (vs gs js : List ℕ) (now : ℕ) → now ≡ room → IsIdle T vs gs js
          → (is_candidate main x && may_inline ss limit (cs ++ c ∷ [])) ≡ false → IsChoosing ss main limit ys (i + 1) cs T lists vs gs js now
      not_taken vs gs js now same idle e =
          record {
            idle = idle;
            callers = h.callers;
            listed = h.listed;
            below = h.below;
            sums = h.sums;
            budget = ap (λ (n : ℕ). n + squares T 0 []) same ∙ h.budget;
            sites = h.sites;
            once = h.once;
            left = λ a k. (let le = left_is a k in omega arith);
            rest = ap (λ (b : Bool). if b then accepted ss main limit (cs ++ c ∷ []) (drop (i + 1) ys) else accepted ss main limit cs (drop (i + 1) ys))
                (sym e) ∙ turn;
          }

      pub choosing_passed : is_candidate main x ≡ false → IsChoosing ss main limit ys (i + 1) cs T lists ts hs ks room
      choosing_passed e = not_taken ts hs ks room refl h.idle (ap (λ (b : Bool). b && may_inline ss limit (cs ++ c ∷ [])) e)

      -- ---- it is a candidate

      new_here : is_chosen cs x.caller x.number ≡ false
      new_here = step (is_chosen cs x.caller x.number) refl
        where
          step : (b : Bool) → is_chosen cs x.caller x.number ≡ b → b ≡ false
          step true e =
              let le = left_is x.caller x.number in
              let one : one_if (is_chosen cs x.caller x.number) ≡ 1 = ap one_if e in
              let two : one_if (is_at x.caller x.number x) ≡ 1
              = ap (λ (b : Bool). one_if (b && nat_eq x.number x.number)) (eq-eqb x.caller x.caller refl) ∙ ap one_if (eq-eqb x.number x.number refl) in
              absurd (omega arith)
          step false e = refl

      nothing_there : (z : ℕ) → summary_at ss z ≡ None → (numbers_at T z).size ≡ 0
      nothing_there z e =
          let is = h.sums.size z in
          let own : inlined.own_at size_measure ss z ≡ 0 = ap (inlined.own_of size_measure) e in
          let sum = sum_none (λ y. (numbers_at T y).size + inlined.extra_at size_measure ss y) cs z
          (all_to (IsSite ss) (λ d. d.caller ≡ z → (numbers_at T d.callee).size + inlined.extra_at size_measure ss d.callee ≡ 0) cs
          (λ d site same. absurd (no_caller d site same)) h.sites) in
          omega arith
        where
          no_caller : (d : plan.Choice) → IsSite ss d → d.caller ≡ z → ⊥
          no_caller d site same =
              let bad : None ≡ Some site.caller = sym e ∙ ap (λ (n : ℕ). summary_at ss n) (sym same) ∙ site.caller_found in absurd cc

      module _ (by : Numbers) (by_is : by ≡ brought T es q) where
        brought_is : IsBrought ss T q by
        brought_is = record {
          size = ap (λ (n : Numbers). n.size) by_is ∙ ap (λ (k : ℕ). (numbers_at T q).size + k) (extra_is ss es extras q);
          regs = (let e = ap (λ (n : Numbers). n.regs) by_is in let none = regs_none (summary_at ss q) in omega arith);
          arrs = (let e = ap (λ (n : Numbers). n.arrays) by_is in let none = arrays_none (summary_at ss q) in omega arith);
          elems = (let e = ap (λ (n : Numbers). n.elements) by_is in let none = elements_none (summary_at ss q) in omega arith);
        }
          where
            regs_none : (o : Option Summary) → inlined.extra_of register_measure o ≡ 0
            regs_none None = refl
            regs_none (Some s) = refl

            arrays_none : (o : Option Summary) → inlined.extra_of array_measure o ≡ 0
            arrays_none None = refl
            arrays_none (Some s) = refl

            elements_none : (o : Option Summary) → inlined.extra_of element_measure o ≡ 0
            elements_none None = refl
            elements_none (Some s) = refl

        pub brief_is : AreFew by → AreBrief by
        brief_is few =
            let size = brought_is.size in
            let some : inlined.extra_at size_measure ss q ≡ 2 + here.callee.params + here.callee.returns = ap (inlined.extra_of size_measure) here.found in
            record { some = omega arith; few = few }

        candidate : IsCandidate ss cs T x.caller x.number q by
        candidate = record {
          apart = linked.apart;
          below = h.below;
          nothing = nothing_there;
          caller = here.caller;
          caller_found = here.caller_found;
          callers = h.sites;
          sums = h.sums;
          brought = brought_is;
          once = once_append cs c h.once new_here;
          sites = all_append (IsSite ss) cs (c ∷ []) h.sites (here, tt);
        }

        module _ (is : is_candidate main x ≡ true) where
          may_is : (b : Bool) → may_inline ss limit (cs ++ c ∷ []) ≡ b → (is_candidate main x && may_inline ss limit (cs ++ c ∷ [])) ≡ b
          may_is b e = ap (λ (k : Bool). k && may_inline ss limit (cs ++ c ∷ [])) is ∙ e

          pub choosing_refused : GrowsNot T x.caller q by lists room → (vs gs js : List ℕ) (now : ℕ) → now ≡ room → IsIdle T vs gs js
              → IsChoosing ss main limit ys (i + 1) cs T lists vs gs js now
          choosing_refused not vs gs js now same idle =
              not_taken vs gs js now same idle
              (may_is false (refused_may_not ss cs T x.caller x.number q by limit candidate (not cs limit h.callers h.budget)))

          module _ (U : List Numbers) (now : ℕ) (g : Grows T x.caller q by lists room U now) where
            callers_more : AreCallers (cs ++ c ∷ []) (put_in lists q x.caller)
            callers_more y =
                put_at lists q x.caller y (let lt = callee_inside in let same = h.listed in omega arith)
                ∙ step (nat_eq q y) refl ∙ sym (callers_append cs c y)
              where
                append_none : (xs : List ℕ) → xs ≡ xs ++ []
                append_none [] = refl
                append_none (z ∷ zs) = ap (λ (l : List ℕ). z ∷ l) (append_none zs)

                step : (b : Bool) → nat_eq q y ≡ b
                    → (if b then slice_index_or lists q [] ++ x.caller ∷ [] else slice_index_or lists y []) ≡ callers_of cs y ++
                    (if b then x.caller ∷ [] else [])
                step true e =
                    ap (λ (k : ℕ). slice_index_or lists k [] ++ x.caller ∷ []) (eqb-true q y e)
                    ∙ ap (λ (l : List ℕ). l ++ x.caller ∷ []) (h.callers y)
                step false e = h.callers y ∙ append_none (callers_of cs y)

            pub choosing_taken : (vs gs js : List ℕ) → IsIdle U vs gs js
                → IsChoosing ss main limit ys (i + 1) (cs ++ c ∷ []) U (put_in lists q x.caller) vs gs js now
            choosing_taken vs gs js idle =
                let taken = g.taken cs limit h.callers h.budget in
                let sum = squares_grown T by g.ts U g.long g.size g.grows in
                let budget = taken.budget in
                record {
                  idle = idle;
                  callers = callers_more;
                  listed = length-set lists q (slice_index_or lists q [] ++ x.caller ∷ []) ∙ h.listed ∙ sym g.long;
                  below = subst (λ (n : ℕ). AllByRecursion (λ s. s.pid < n) ss) (sym g.long) h.below;
                  sums = taken_sums ss cs T x.caller x.number q by limit candidate g.ts now taken g.size U g.grows;
                  budget = omega arith;
                  sites = all_append (IsSite ss) cs (c ∷ []) h.sites (here, tt);
                  once = once_append cs c h.once new_here;
                  left = λ a k.
                      (let le = left_is a k in
                      let is_now : one_if (is_chosen (cs ++ c ∷ []) a k) ≡ one_if (is_chosen cs a k || is_at a k x) = ap one_if (chosen_append cs c a k) in
                      let most = either_one (is_chosen cs a k) (is_at a k x) in
                      omega arith);
                  rest = ap (λ (b : Bool). if b then accepted ss main limit (cs ++ c ∷ []) (drop (i + 1) ys) else accepted ss main limit cs (drop (i + 1) ys))
                      (sym (may_is true (taken_may ss cs T x.caller x.number q by limit candidate g.ts now taken g.size))) ∙ turn;
                }
