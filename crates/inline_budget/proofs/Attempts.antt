-- Callers are followed: what one more routine, and one more that hands on, do to the tables.
use Rattle.std.proofs.Common.{◌≡◌, ℕ, zero, suc, ◌+◌, ◌-◌, ◌*◌, ◌<◌, ◌≤◌, List, [], ◌∷◌, ◌++◌, length, drop, get_or, Bool, true, false, refl, ap, subst}
use Rattle.std.proofs.Common.{sym, ◌∙◌, arith, eqb-true, eq-eqb, ne_eqb, leb-true}
use Rattle.std.specs.Prelude.{◌^◌, nat_eq, nat_le, ◌||◌, ◌&&◌, if◌then◌else◌, slice_set, Some, None}
use Rattle.std.specs.List.{AllByRecursion}
use Rattle.std.proofs.Math.Nat.{mul-le-mul_left, pow-le-pow_left}
use Rattle.std.proofs.lemmas.List.{drop_all}
use Rattle.il_core.specs.Limits.{max_arrays, max_elements, max_registers, max_size}
use Rattle.list_laws.proofs.Tests.{and_first, and_second}
use Rattle.il_laws.proofs.Grown.{all_to}
use Rattle.plan_laws.specs.ChoiceLaws.{Falls}
use Rattle.plan_laws.specs.Numbers as plan
use Rattle.inline_budget.specs.declared.numbers.Numbers.{Numbers}
use Rattle.inline_budget.specs.Calls.{Calls, only_if, calls_sum, callers_of, shares, number_at, has_number}
use Rattle.inline_budget.specs.Attempts.{numbers_at, plain, grown, IsWithin, squares, rise, room_after, IsAttempt, IsTaken}
use Rattle.inline_budget.proofs.Sums.{sum_more, sum_same, callers_all}
use Rattle.inline_budget.proofs.Tables.{same_bad, set_is, set_there, has_append}

-- the limits as tests and as bounds
pub within_is : (n : Numbers) → plan.is_within (plain n) ≡ true → IsWithin n
within_is n e =
    let abc = and_first (nat_le n.size max_size && nat_le n.regs max_registers && nat_le n.arrays max_arrays) (nat_le n.elements max_elements) e in
    let ab = and_first (nat_le n.size max_size && nat_le n.regs max_registers) (nat_le n.arrays max_arrays) abc in
    record {
      size = leb-true n.size max_size (and_first (nat_le n.size max_size) (nat_le n.regs max_registers) ab);
      regs = leb-true n.regs max_registers (and_second (nat_le n.size max_size) (nat_le n.regs max_registers) ab);
      arrays = leb-true n.arrays max_arrays (and_second (nat_le n.size max_size && nat_le n.regs max_registers) (nat_le n.arrays max_arrays) abc);
      elements = leb-true n.elements max_elements
          (and_second (nat_le n.size max_size && nat_le n.regs max_registers && nat_le n.arrays max_arrays) (nat_le n.elements max_elements) e);
    }

-- what an answer with room says
pub record HasRoom (T : List Numbers) (by : Numbers) (q : ℕ) (ts : List ℕ) (room x m now : ℕ) : Type 0 where
  pub other : x ≡ q → ⊥
  pub within : IsWithin (grown (numbers_at T x) by (number_at ts x + m))
  pub enough : rise (grown (numbers_at T x) by (number_at ts x)).size (grown (numbers_at T x) by (number_at ts x + m)).size ≤ room
  pub now_is : now ≡ room - rise (grown (numbers_at T x) by (number_at ts x)).size (grown (numbers_at T x) by (number_at ts x + m)).size

pub has_room : (T : List Numbers) (by : Numbers) (q : ℕ) (ts : List ℕ) (room x m now : ℕ) → room_after T by q ts room x m ≡ Some now
    → HasRoom T by q ts room x m now
has_room T by q ts room x m now e =
    by_other (nat_eq x q) (plan.is_within (plain (grown (numbers_at T x) by (number_at ts x + m))))
    (nat_le (rise (grown (numbers_at T x) by (number_at ts x)).size (grown (numbers_at T x) by (number_at ts x + m)).size) room) refl refl refl e
  where
    by_other : (a b c : Bool) → nat_eq x q ≡ a → plan.is_within (plain (grown (numbers_at T x) by (number_at ts x + m))) ≡ b
        → nat_le (rise (grown (numbers_at T x) by (number_at ts x)).size (grown (numbers_at T x) by (number_at ts x + m)).size) room ≡ c
        → (if a then None else (if b then (if c then
        Some (room - rise (grown (numbers_at T x) by (number_at ts x)).size (grown (numbers_at T x) by (number_at ts x + m)).size)
        else None) else None)) ≡ Some now
        → HasRoom T by q ts room x m now
    by_other true b c ea eb ec g = let bad : None ≡ Some now = g in absurd cc
    by_other false false c ea eb ec g = let bad : None ≡ Some now = g in absurd cc
    by_other false true false ea eb ec g = let bad : None ≡ Some now = g in absurd cc
    by_other false true true ea eb ec g =
        let same : Some (room - rise (grown (numbers_at T x) by (number_at ts x)).size (grown (numbers_at T x) by (number_at ts x + m)).size) ≡ Some now = g in
        let is : room - rise (grown (numbers_at T x) by (number_at ts x)).size (grown (numbers_at T x) by (number_at ts x + m)).size ≡ now = cc same in
        record {
          other = same_bad true x q ea;
          within = within_is (grown (numbers_at T x) by (number_at ts x + m)) eb;
          enough = leb-true (rise (grown (numbers_at T x) by (number_at ts x)).size (grown (numbers_at T x) by (number_at ts x + m)).size) room ec;
          now_is = sym is;
        }

-- the squares with one routine's size changed
pub squares_set : (T : List Numbers) (by : ℕ) (ts : List ℕ) (x v : ℕ) → x < length T → length ts ≡ length T
    → squares T by (slice_set ts x v) + ((numbers_at T x).size + by * number_at ts x) ^ 2 ≡ squares T by ts + ((numbers_at T x).size + by * v) ^ 2
squares_set [] by ts x v lt e = absurd (omega arith)
squares_set (n ∷ T) by [] x v lt e = absurd (omega arith)
squares_set (n ∷ T) by (t ∷ ts) zero v lt e = omega arith
squares_set (n ∷ T) by (t ∷ ts) (suc x) v lt e = let rest = squares_set T by ts x v (omega arith) (omega arith) in omega arith

-- numbers in the rest of a list

pub drop_push : (next : ℕ) (ks : List ℕ) (x : ℕ) → next ≤ length ks → drop next (ks ++ x ∷ []) ≡ drop next ks ++ x ∷ []
drop_push zero ks x le = refl
drop_push (suc next) [] x le = absurd (omega arith)
drop_push (suc next) (k ∷ ks) x le = drop_push next ks x (omega arith)

pub drop_next : (next : ℕ) (ks : List ℕ) (d : ℕ) → next < length ks → drop next ks ≡ get_or ks next d ∷ drop (suc next) ks
drop_next next [] d lt = absurd (omega arith)
drop_next zero (k ∷ ks) d lt = refl
drop_next (suc next) (k ∷ ks) d lt = drop_next next ks d (omega arith)

or_left : (a b : Bool) → a ≡ true → (a || b) ≡ true
or_left a b e = ap (λ (k : Bool). k || b) e

or_right : (a b : Bool) → b ≡ true → (a || b) ≡ true
or_right true b e = refl
or_right false b e = e

has_pushed : (xs : List ℕ) (x z : ℕ) → has_number xs z ≡ true → has_number (xs ++ x ∷ []) z ≡ true
has_pushed xs x z e = has_append xs x z ∙ or_left (has_number xs z) (nat_eq x z) e

has_last : (xs : List ℕ) (x z : ℕ) → x ≡ z → has_number (xs ++ x ∷ []) z ≡ true
has_last xs x z e = has_append xs x z ∙ or_right (has_number xs z) (nat_eq x z) (eq-eqb x z e)

module _ (cs : Calls) (T : List Numbers) (p q : ℕ) (by : Numbers) (limit : ℕ) where
  -- at the start it is to come once to p
  pub attempt_first : (ts hs : List ℕ) (room : ℕ) → ((x : ℕ) → number_at ts x ≡ 0) → ((x : ℕ) → number_at hs x ≡ 0)
      → ((x : ℕ) → IsWithin (numbers_at T x)) → room + squares T by.size ts ≡ limit
      → ((x : ℕ) → calls_sum cs (number_at hs) x ≡ 0) → IsAttempt cs T p q by limit ts hs [] 0 room 1 (p ∷ [])
  attempt_first ts hs room zt zh within e nothing =
      record {
        times = λ x. (let a = zt x in let b = nothing x in let swap = eq_swap x p in omega arith);
        below = λ x. (let a = zh x in omega arith);
        free = zt q;
        within = λ x.
            (let w = within x in
            let a : by.size * number_at ts x ≡ by.size * 0 = ap (λ (t : ℕ). by.size * t) (zt x) in
            let b : by.regs * number_at ts x ≡ by.regs * 0 = ap (λ (t : ℕ). by.regs * t) (zt x) in
            let c : by.arrays * number_at ts x ≡ by.arrays * 0 = ap (λ (t : ℕ). by.arrays * t) (zt x) in
            let d : by.elements * number_at ts x ≡ by.elements * 0 = ap (λ (t : ℕ). by.elements * t) (zt x) in
            let ws = w.size in let wr = w.regs in let wa = w.arrays in let we = w.elements in
            record { size = omega arith; regs = omega arith; arrays = omega arith; elements = omega arith });
        budget = e;
        waiting = λ x ne. absurd (ne (zh x ∙ sym (zt x)));
        ranks = λ r falls x ne. absurd (ne (zt x));
        rest_ranks = λ r falls. (omega arith, tt);
      }
    where
      eq_swap : (a b : ℕ) → only_if (nat_eq a b) 1 ≡ only_if (nat_eq b a) 1
      eq_swap a b = by_test (nat_eq a b) refl
        where
          by_test : (k : Bool) → nat_eq a b ≡ k → only_if k 1 ≡ only_if (nat_eq b a) 1
          by_test true e = ap (λ (k : Bool). only_if k 1) (sym (eq-eqb b a (sym (eqb-true a b e))))
          by_test false e = ap (λ (k : Bool). only_if k 1) (sym (ne_eqb b a (λ same. same_bad true a b e (sym same))))

  -- it comes to one routine
  module _ (ts hs ks : List ℕ) (next room m x : ℕ) (rest : List ℕ) (h : IsAttempt cs T p q by limit ts hs ks next room m (x ∷ rest)) where
    abbrev us : List ℕ
    us = slice_set ts x (number_at ts x + m)

    pub attempt_raised : (now : ℕ) → room_after T by q ts room x m ≡ Some now → x < length T → length ts ≡ length T → next ≤ length ks
        → IsAttempt cs T p q by limit (slice_set ts x (number_at ts x + m)) hs (ks ++ x ∷ []) next now m rest
    attempt_raised now answer lt size le =
        let k = has_room T by q ts room x m now answer in
        let less : x < length ts = omega arith in
        let is = set_is ts x (number_at ts x + m) in
        record {
          times = λ z. times z (nat_eq x z) refl less;
          below = λ z. below z (nat_eq x z) refl less;
          free = set_there ts x (number_at ts x + m) q (λ same. k.other (sym same)) ∙ h.free;
          within = λ z. within z (nat_eq x z) refl less k.within;
          budget = (let sums = squares_set T by.size ts x (number_at ts x + m) lt size in
              let old = h.budget in let enough = k.enough in let now_is = k.now_is in
              let more : by.size * number_at ts x ≤ by.size * (number_at ts x + m) = mul-le-mul_left by.size (omega arith) in
              let sizes : (numbers_at T x).size + by.size * number_at ts x ≤ (numbers_at T x).size + by.size * (number_at ts x + m) = omega arith in
              let up : ((numbers_at T x).size + by.size * number_at ts x) ^ 2 ≤ ((numbers_at T x).size + by.size * (number_at ts x + m)) ^ 2
              = pow-le-pow_left sizes 2 in
              omega arith);
          waiting = λ z ne. ap (λ (js : List ℕ). has_number js z) (drop_push next ks x le) ∙ waiting z (nat_eq x z) refl less ne;
          ranks = λ r falls z ne. ranks r falls z (nat_eq x z) refl less ne;
          rest_ranks = λ r falls. (h.rest_ranks r falls).1;
        }
      where
        at : (z : ℕ) (b : Bool) → nat_eq x z ≡ b → x < length ts → number_at us z ≡ (if b then number_at ts x + m else number_at ts z)
        at z b e less = set_is ts x (number_at ts x + m) z less ∙ ap (λ (k : Bool). if k then number_at ts x + m else number_at ts z) e

        times : (z : ℕ) (b : Bool) → nat_eq x z ≡ b → x < length ts → number_at us z + shares m z rest ≡ only_if (nat_eq z p) 1 + calls_sum cs (number_at hs) z
        times z true e less =
            let here : number_at us z ≡ number_at ts x + m = at z true e less in
            let there : number_at ts x ≡ number_at ts z = ap (λ (k : ℕ). number_at ts k) (eqb-true x z e) in
            let old : number_at ts z + (only_if (nat_eq x z) m + shares m z rest) ≡ only_if (nat_eq z p) 1 + calls_sum cs (number_at hs) z = h.times z in
            let one : only_if (nat_eq x z) m ≡ m = ap (λ (k : Bool). only_if k m) e in
            omega arith
        times z false e less =
            let here : number_at us z ≡ number_at ts z = at z false e less in
            let old : number_at ts z + (only_if (nat_eq x z) m + shares m z rest) ≡ only_if (nat_eq z p) 1 + calls_sum cs (number_at hs) z = h.times z in
            let one : only_if (nat_eq x z) m ≡ 0 = ap (λ (k : Bool). only_if k m) e in
            omega arith

        below : (z : ℕ) (b : Bool) → nat_eq x z ≡ b → x < length ts → number_at hs z ≤ number_at us z
        below z true e less =
            let here : number_at us z ≡ number_at ts x + m = at z true e less in
            let there : number_at ts x ≡ number_at ts z = ap (λ (k : ℕ). number_at ts k) (eqb-true x z e) in
            let old = h.below z in
            omega arith
        below z false e less =
            let here : number_at us z ≡ number_at ts z = at z false e less in
            let old = h.below z in
            omega arith

        within : (z : ℕ) (b : Bool) → nat_eq x z ≡ b → x < length ts → IsWithin (grown (numbers_at T x) by (number_at ts x + m))
            → IsWithin (grown (numbers_at T z) by (number_at us z))
        within z true e less w =
            subst (λ (t : ℕ). IsWithin (grown (numbers_at T z) by t)) (sym (at z true e less))
            (subst (λ (k : ℕ). IsWithin (grown (numbers_at T k) by (number_at ts x + m))) (eqb-true x z e) w)
        within z false e less w = subst (λ (t : ℕ). IsWithin (grown (numbers_at T z) by t)) (sym (at z false e less)) (h.within z)

        waiting : (z : ℕ) (b : Bool) → nat_eq x z ≡ b → x < length ts → (number_at hs z ≡ number_at us z → ⊥)
            → has_number (drop next ks ++ x ∷ []) z ≡ true
        waiting z true e less ne = has_last (drop next ks) x z (eqb-true x z e)
        waiting z false e less ne = has_pushed (drop next ks) x z (h.waiting z (λ same. ne (same ∙ sym (at z false e less))))

        ranks : (r : ℕ → ℕ) → Falls r cs → (z : ℕ) (b : Bool) → nat_eq x z ≡ b → x < length ts → (number_at us z ≡ 0 → ⊥) → r p ≤ r z
        ranks r falls z true e less ne = subst (λ (k : ℕ). r p ≤ r k) (eqb-true x z e) (h.rest_ranks r falls).0
        ranks r falls z false e less ne = h.ranks r falls z (λ same. ne (at z false e less ∙ same))

  -- the next routine hands on
  module _ (ts hs ks : List ℕ) (next room m : ℕ) (h : IsAttempt cs T p q by limit ts hs ks next room m []) (lt : next < length ks)
      (y : ℕ) (is : y ≡ get_or ks next y) (inside : y < length hs) where
    rest_has : (z : ℕ) → (number_at (slice_set hs y (number_at ts y)) z ≡ number_at ts z → ⊥) → has_number (drop (suc next) ks) z ≡ true
    rest_has z ne = step (nat_eq y z) refl
      where
        step : (b : Bool) → nat_eq y z ≡ b → has_number (drop (suc next) ks) z ≡ true
        step true e =
            let same = eqb-true y z e in
            absurd (ne (set_is hs y (number_at ts y) z inside ∙ ap (λ (k : Bool). if k then number_at ts y else number_at hs z) e ∙ ap
            (λ (k : ℕ). number_at ts k) same))
        step false e =
            let still : number_at (slice_set hs y (number_at ts y)) z ≡ number_at hs z
            = set_is hs y (number_at ts y) z inside ∙ ap (λ (k : Bool). if k then number_at ts y else number_at hs z) e in
            let old = h.waiting z (λ same. ne (still ∙ same)) in
            let split : has_number (drop next ks) z ≡ (nat_eq y z || has_number (drop (suc next) ks) z)
            = ap (λ (js : List ℕ). has_number js z) (drop_next next ks y lt) ∙ ap (λ (k : ℕ). nat_eq k z || has_number (drop (suc next) ks) z) (sym is) in
            let other : (nat_eq y z || has_number (drop (suc next) ks) z) ≡ has_number (drop (suc next) ks) z
            = ap (λ (b : Bool). b || has_number (drop (suc next) ks) z) e in
            sym other ∙ sym split ∙ old

    abbrev gs : List ℕ
    gs = slice_set hs y (number_at ts y)

    below_now : (z : ℕ) → number_at gs z ≤ number_at ts z
    below_now z = step (nat_eq y z) refl
      where
        step : (b : Bool) → nat_eq y z ≡ b → number_at gs z ≤ number_at ts z
        step true e =
            let here : number_at gs z ≡ number_at ts y
            = set_is hs y (number_at ts y) z inside ∙ ap (λ (k : Bool). if k then number_at ts y else number_at hs z) e in
            let there : number_at ts y ≡ number_at ts z = ap (λ (k : ℕ). number_at ts k) (eqb-true y z e) in
            omega arith
        step false e =
            let here : number_at gs z ≡ number_at hs z
            = set_is hs y (number_at ts y) z inside ∙ ap (λ (k : Bool). if k then number_at ts y else number_at hs z) e in
            let old = h.below z in
            omega arith

    module _ (k : ℕ) (k_is : k ≡ number_at ts y - number_at hs y) where
      handed : (z : ℕ) → number_at gs z ≡ number_at hs z + only_if (nat_eq z y) k
      handed z = step (nat_eq y z) (nat_eq z y) refl refl
        where
          step : (b e : Bool) → nat_eq y z ≡ b → nat_eq z y ≡ e → number_at gs z ≡ number_at hs z + only_if e k
          step true true eb ee =
              let here : number_at gs z ≡ number_at ts y
              = set_is hs y (number_at ts y) z inside ∙ ap (λ (k : Bool). if k then number_at ts y else number_at hs z) eb in
              let there : number_at hs y ≡ number_at hs z = ap (λ (k : ℕ). number_at hs k) (eqb-true y z eb) in
              let old = h.below y in
              omega arith
          step true false eb ee = absurd (same_bad true z y ee (sym (eqb-true y z eb)))
          step false true eb ee = absurd (same_bad true y z eb (sym (eqb-true z y ee)))
          step false false eb ee =
              let here : number_at gs z ≡ number_at hs z
              = set_is hs y (number_at ts y) z inside ∙ ap (λ (k : Bool). if k then number_at ts y else number_at hs z) eb in
              omega arith

      pub attempt_handed : (xs : List ℕ) → xs ≡ callers_of cs y → 0 < k → IsAttempt cs T p q by limit ts gs ks (suc next) room k xs
      attempt_handed xs xs_are some =
          record {
            times = λ z.
                (let old : number_at ts z + 0 ≡ only_if (nat_eq z p) 1 + calls_sum cs (number_at hs) z = h.times z in
                let more : calls_sum cs (number_at gs) z ≡ calls_sum cs (number_at hs) z + shares k z (callers_of cs y)
                = sum_more (number_at gs) (number_at hs) y k handed cs z in
                let same : shares k z xs ≡ shares k z (callers_of cs y) = ap (λ (zs : List ℕ). shares k z zs) xs_are in
                omega arith);
            below = below_now;
            free = h.free;
            within = h.within;
            budget = h.budget;
            waiting = rest_has;
            ranks = h.ranks;
            rest_ranks = λ r falls. subst (λ (zs : List ℕ). AllByRecursion (λ x. r p ≤ r x) zs) (sym xs_are)
                (callers_all (λ x. r p ≤ r x) y cs (all_to (λ (c : plan.Choice). r c.callee < r c.caller) (λ c. c.callee ≡ y → r p ≤ r c.caller) cs
                (λ c fall same.
                (let there : r c.callee ≡ r y = ap r same in
                let low : r p ≤ r y = h.ranks r falls y (λ none. some_times none) in
                omega arith)) falls));
          }
        where
          some_times : number_at ts y ≡ 0 → ⊥
          some_times none = absurd (omega arith)

      pub attempt_passed : k ≡ 0 → IsAttempt cs T p q by limit ts gs ks (suc next) room m []
      attempt_passed none =
          record {
            times = λ z.
                (let old : number_at ts z + 0 ≡ only_if (nat_eq z p) 1 + calls_sum cs (number_at hs) z = h.times z in
                let more : calls_sum cs (number_at gs) z ≡ calls_sum cs (number_at hs) z + shares k z (callers_of cs y)
                = sum_more (number_at gs) (number_at hs) y k handed cs z in
                let same : shares k z (callers_of cs y) ≡ 0 = ap (λ (j : ℕ). shares j z (callers_of cs y)) none ∙ no_shares z (callers_of cs y) in
                omega arith);
            below = below_now;
            free = h.free;
            within = h.within;
            budget = h.budget;
            waiting = rest_has;
            ranks = h.ranks;
            rest_ranks = λ r falls. tt;
          }
        where
          no_shares : (z : ℕ) (xs : List ℕ) → shares 0 z xs ≡ 0
          no_shares z [] = refl
          no_shares z (x ∷ xs) = let rest = no_shares z xs in one (nat_eq x z) rest
            where
              one : (b : Bool) → shares 0 z xs ≡ 0 → only_if b 0 + shares 0 z xs ≡ 0
              one true e = omega arith
              one false e = omega arith

  -- all have handed on
  pub attempt_done : (ts hs ks : List ℕ) (next room m : ℕ) → IsAttempt cs T p q by limit ts hs ks next room m [] → length ks ≤ next
      → IsTaken cs T p q by limit ts room
  attempt_done ts hs ks next room m h end =
      record {
        times = λ x.
            (let old : number_at ts x + 0 ≡ only_if (nat_eq x p) 1 + calls_sum cs (number_at hs) x = h.times x in
            let same = sum_same (number_at hs) (number_at ts) cs x (each x cs) in
            omega arith);
        free = h.free;
        within = h.within;
        budget = h.budget;
      }
    where
      equal : (z : ℕ) → number_at hs z ≡ number_at ts z
      equal z = by_test (nat_eq (number_at hs z) (number_at ts z)) refl
        where
          nothing : drop next ks ≡ []
          nothing = drop_all next ks end

          by_test : (b : Bool) → nat_eq (number_at hs z) (number_at ts z) ≡ b → number_at hs z ≡ number_at ts z
          by_test true e = eqb-true (number_at hs z) (number_at ts z) e
          by_test false e =
              let has = h.waiting z (same_bad true (number_at hs z) (number_at ts z) e) in
              let bad : true ≡ false = sym has ∙ ap (λ (js : List ℕ). has_number js z) nothing in
              absurd cc

      each : (x : ℕ) (ds : Calls) → AllByRecursion (λ c. c.caller ≡ x → number_at hs c.callee ≡ number_at ts c.callee) ds
      each x [] = tt
      each x (d ∷ ds) = (λ same. equal d.callee, each x ds)
