-- A whole attempt: numbers are given to the routines to which they came, from empty tables to empty tables.
use Rattle.std.proofs.Common.{◌≡◌, ℕ, suc, ◌+◌, ◌*◌, ◌<◌, ◌≤◌, List, [], ◌∷◌, length, drop, Bool, true, false, refl, ap, subst, sym, ◌∙◌, arith, eqb-true}
use Rattle.std.specs.Prelude.{◌^◌, nat_eq, if◌then◌else◌, slice_set, slice_index_or}
use Rattle.std.specs.List.{AllByRecursion}
use Rattle.std.proofs.lemmas.List.{drop_all, length-set, get_or-set_same, get_or-set_other}
use Rattle.inline_budget.specs.declared.numbers.Numbers.{Numbers}
use Rattle.inline_budget.specs.Attempts.{no_numbers, numbers_at, grown, IsWithin, squares, IsAttempt, IsTaken}
use Rattle.inline_budget.specs.Calls.{Calls, has_number, number_at}
use Rattle.inline_budget.specs.Following.{AreCallers, HasCalls, IsIdle, IsReady, Grows, GrowsNot, Spreads, SpreadsNot}
use Rattle.inline_budget.proofs.Sums.{sum_none}
use Rattle.inline_budget.proofs.Tables.{same_bad, set_is}
use Rattle.inline_budget.proofs.Attempts.{attempt_first}
use Rattle.inline_budget.proofs.Cleared.{IsEmptied, emptied_one}

-- a table of numbers with an entry written
pub set_numbers : (T : List Numbers) (x z : ℕ) (n : Numbers) → x < length T
    → numbers_at (slice_set T x n) z ≡ (if nat_eq x z then n else numbers_at T z)
set_numbers T x z n lt = by_test (nat_eq x z) refl
  where
    by_test : (b : Bool) → nat_eq x z ≡ b → numbers_at (slice_set T x n) z ≡ (if b then n else numbers_at T z)
    by_test true e = ap (λ (k : ℕ). numbers_at (slice_set T x n) k) (sym (eqb-true x z e)) ∙ get_or-set_same T x n no_numbers lt
    by_test false e = get_or-set_other T x z n no_numbers (λ same. same_bad true x z e (sym same))

grown_none : (n by : Numbers) → grown n by 0 ≡ n
grown_none n by =
    let a : n.size + by.size * 0 ≡ n.size = omega arith in
    let b : n.regs + by.regs * 0 ≡ n.regs = omega arith in
    let c : n.arrays + by.arrays * 0 ≡ n.arrays = omega arith in
    let d : n.elements + by.elements * 0 ≡ n.elements = omega arith in
    λ i. record { size = a i; regs = b i; arrays = c i; elements = d i }

-- ---- the loop over the queue

pub record IsGiving (T : List Numbers) (by : Numbers) (ts ks : List ℕ) (i : ℕ) (U : List Numbers) (us gs : List ℕ) : Type 0 where
  pub grows : (x : ℕ) → grown (numbers_at U x) by (number_at us x) ≡ grown (numbers_at T x) by (number_at ts x)
  pub within : (x : ℕ) → IsWithin (numbers_at U x)
  pub few : (x : ℕ) → number_at us x ≤ 2 ^ 16
  pub times : IsEmptied ks i us
  pub handed : IsEmptied ks i gs
  pub long : length U ≡ length T
  pub sized : length us ≡ length T
  pub same : length gs ≡ length T

pub giving_first : (T : List Numbers) (by : Numbers) (ts hs ks : List ℕ) → IsReady T ts hs ks → IsGiving T by ts ks 0 T ts hs
giving_first T by ts hs ks h =
    record {
      grows = λ x. refl;
      within = h.within;
      few = h.few;
      times = h.touched;
      handed = λ x none. (let a = h.touched x none in let b = h.below x in omega arith);
      long = refl;
      sized = h.times;
      same = h.handed;
    }

module _ (T : List Numbers) (by : Numbers) (ts ks : List ℕ) (i : ℕ) (U : List Numbers) (us gs : List ℕ) (h : IsGiving T by ts ks i U us gs) where
  pub giving_one : (y : ℕ) → i < length ks → y ≡ slice_index_or ks i y → y < length T → ((x : ℕ) → IsWithin (grown (numbers_at T x) by (number_at ts x)))
      → (n : Numbers) → n ≡ grown (numbers_at U y) by (number_at us y) → IsGiving T by ts ks (i + 1) (slice_set U y n) (slice_set us y 0) (slice_set gs y 0)
  giving_one y lt y_is inside all n n_is =
      let a = h.long in
      let b = h.sized in
      let c = h.same in
      record {
        grows = λ x. grows x (nat_eq y x) refl;
        within = λ x. within x (nat_eq y x) refl;
        few = λ x. few x (nat_eq y x) refl;
        times = emptied_one ks i y us (slice_set us y 0) h.times lt y_is (omega arith) refl;
        handed = emptied_one ks i y gs (slice_set gs y 0) h.handed lt y_is (omega arith) refl;
        long = length-set U y n ∙ h.long;
        sized = length-set us y 0 ∙ h.sized;
        same = length-set gs y 0 ∙ h.same;
      }
    where
      in_U : y < length U
      in_U = let a = h.long in omega arith

      in_us : y < length us
      in_us = let a = h.sized in omega arith

      number_is : (x : ℕ) (b : Bool) → nat_eq y x ≡ b → numbers_at (slice_set U y n) x ≡ (if b then n else numbers_at U x)
      number_is x b e = set_numbers U y x n in_U ∙ ap (λ (k : Bool). if k then n else numbers_at U x) e

      time_is : (x : ℕ) (b : Bool) → nat_eq y x ≡ b → number_at (slice_set us y 0) x ≡ (if b then 0 else number_at us x)
      time_is x b e = set_is us y 0 x in_us ∙ ap (λ (k : Bool). if k then 0 else number_at us x) e

      grows : (x : ℕ) (b : Bool) → nat_eq y x ≡ b
          → grown (numbers_at (slice_set U y n) x) by (number_at (slice_set us y 0) x) ≡ grown (numbers_at T x) by (number_at ts x)
      grows x true e =
          ap (λ (t : ℕ). grown (numbers_at (slice_set U y n) x) by t) (time_is x true e)
          ∙ grown_none (numbers_at (slice_set U y n) x) by ∙ number_is x true e ∙ n_is
          ∙ ap (λ (z : ℕ). grown (numbers_at U z) by (number_at us z)) (eqb-true y x e) ∙ h.grows x
      grows x false e =
          ap (λ (t : ℕ). grown (numbers_at (slice_set U y n) x) by t) (time_is x false e)
          ∙ ap (λ (m : Numbers). grown m by (number_at us x)) (number_is x false e) ∙ h.grows x

      within : (x : ℕ) (b : Bool) → nat_eq y x ≡ b → IsWithin (numbers_at (slice_set U y n) x)
      within x true e = subst IsWithin (sym (number_is x true e ∙ n_is ∙ h.grows y)) (all y)
      within x false e = subst IsWithin (sym (number_is x false e)) (h.within x)

      few : (x : ℕ) (b : Bool) → nat_eq y x ≡ b → number_at (slice_set us y 0) x ≤ 2 ^ 16
      few x true e = let is : number_at (slice_set us y 0) x ≡ 0 = time_is x true e in omega arith
      few x false e = let is : number_at (slice_set us y 0) x ≡ number_at us x = time_is x false e in let le = h.few x in omega arith

  module _ (end : length ks ≤ i) where
    nothing : (x : ℕ) → has_number (drop i ks) x ≡ false
    nothing x = ap (λ (js : List ℕ). has_number js x) (drop_all i ks end)

    pub given_times : (x : ℕ) → number_at us x ≡ 0
    given_times x = h.times x (nothing x)

    pub given_handed : (x : ℕ) → number_at gs x ≡ 0
    given_handed x = h.handed x (nothing x)

    pub given_numbers : (x : ℕ) → numbers_at U x ≡ grown (numbers_at T x) by (number_at ts x)
    given_numbers x =
        sym (grown_none (numbers_at U x) by) ∙ ap (λ (t : ℕ). grown (numbers_at U x) by t) (sym (given_times x)) ∙ h.grows x

-- ---- from empty tables on

pub squares_none : (T : List Numbers) (by : ℕ) (ts : List ℕ) → ((x : ℕ) → number_at ts x ≡ 0) → squares T by ts ≡ squares T 0 []
squares_none [] by ts h = refl
squares_none (n ∷ T) by [] h = ap (λ (k : ℕ). n.size ^ 2 + k) (squares_none T by [] (λ x. refl))
squares_none (n ∷ T) by (t ∷ ts) h =
    let zero_is : t ≡ 0 = h 0 in
    let times : by * t ≡ by * 0 = ap (λ (k : ℕ). by * k) zero_is in
    let same : n.size + by * t ≡ n.size = omega arith in
    let one = ap (λ (k : ℕ). k ^ 2) same in
    let rest = squares_none T by ts (λ x. h (suc x)) in
    omega arith

pub ready_idle : (T : List Numbers) (ts hs ks : List ℕ) → IsIdle T ts hs ks → IsReady T ts hs ks
ready_idle T ts hs ks h =
    record {
      times = h.times;
      handed = h.handed;
      within = h.within;
      few = λ x. (let e = h.no_times x in omega arith);
      below = λ x. (let e = h.no_handed x in omega arith);
      inside = subst (AllByRecursion (λ x. x < length T)) (sym h.no_queue) tt;
      touched = λ x none. h.no_times x;
    }

module _ (T : List Numbers) (p q : ℕ) (by : Numbers) (lists : List (List ℕ)) (ts hs ks : List ℕ) (room : ℕ) (idle : IsIdle T ts hs ks) where
  first : (cs : Calls) (limit : ℕ) → room + squares T 0 [] ≡ limit → IsAttempt cs T p q by limit ts hs ks 0 room 1 (p ∷ [])
  first cs limit e =
      let none = squares_none T by.size ts idle.no_times in
      subst (λ (js : List ℕ). IsAttempt cs T p q by limit ts hs js 0 room 1 (p ∷ [])) (sym idle.no_queue)
      (attempt_first cs T p q by limit ts hs room idle.no_times idle.no_handed idle.within (omega arith)
      (λ x. sum_none (number_at hs) cs x (all_none x cs)))
    where
      all_none : (x : ℕ) (ds : Calls) → AllByRecursion (λ c. c.caller ≡ x → number_at hs c.callee ≡ 0) ds
      all_none x [] = tt
      all_none x (d ∷ ds) = (λ same. idle.no_handed d.callee, all_none x ds)

  module _ (us : List ℕ) (now : ℕ) (spreads : Spreads T p q by lists ts hs ks room us now) where
    taken_by : (cs : Calls) (limit : ℕ) → AreCallers cs lists → room + squares T 0 [] ≡ limit → IsTaken cs T p q by limit us now
    taken_by cs limit are e = spreads cs limit are (first cs limit e)

    pub taken_within : HasCalls lists → (x : ℕ) → IsWithin (grown (numbers_at T x) by (number_at us x))
    taken_within h = (taken_by h.calls (room + squares T 0 []) h.are refl).within

    pub grows_by : (U : List Numbers) → length us ≡ length T → length U ≡ length T
        → ((x : ℕ) → numbers_at U x ≡ grown (numbers_at T x) by (number_at us x)) → Grows T p q by lists room U now
    grows_by U size long grows = record { ts = us; size = size; long = long; grows = grows; taken = taken_by }

    pub idle_grown : HasCalls lists → (U : List Numbers) (vs gs js : List ℕ) → length U ≡ length T
        → ((x : ℕ) → numbers_at U x ≡ grown (numbers_at T x) by (number_at us x)) → ((x : ℕ) → number_at vs x ≡ 0) → ((x : ℕ) → number_at gs x ≡ 0)
        → js ≡ [] → length vs ≡ length T → length gs ≡ length T → IsIdle U vs gs js
    idle_grown h U vs gs js long grows zt zh none lv lg =
        record {
          times = lv ∙ sym long;
          handed = lg ∙ sym long;
          within = λ x. subst IsWithin (sym (grows x)) (taken_within h x);
          no_times = zt;
          no_handed = zh;
          no_queue = none;
        }

  pub grows_not : SpreadsNot T p q by lists ts hs ks room → GrowsNot T p q by lists room
  grows_not spreads cs limit are e = spreads cs limit are (first cs limit e)

  pub idle_again : (vs gs js : List ℕ) → ((x : ℕ) → number_at vs x ≡ 0) → ((x : ℕ) → number_at gs x ≡ 0) → js ≡ []
      → length vs ≡ length T → length gs ≡ length T → IsIdle T vs gs js
  idle_again vs gs js zt zh none lv lg =
      record { times = lv; handed = lg; within = idle.within; no_times = zt; no_handed = zh; no_queue = none }
