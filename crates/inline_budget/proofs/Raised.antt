-- What the loop over callers takes from the tables.
use Rattle.std.proofs.Common.{◌≡◌, ℕ, suc, ◌+◌, ◌*◌, ◌<◌, ◌≤◌, List, [], ◌∷◌, ◌++◌, length, drop, get_or, Bool, true, false, refl, ap, subst, sym, ◌∙◌}
use Rattle.std.proofs.Common.{arith, eqb-true}
use Rattle.std.specs.Prelude.{◌^◌, nat_eq, if◌then◌else◌, slice_set, Some, None}
use Rattle.std.specs.List.{AllByRecursion}
use Rattle.std.proofs.Math.Nat.{mul-add, mul-le-mul_right, pow-lt-pow_left}
use Rattle.std.proofs.lemmas.List.{drop_all, length-set, length-append}
use Rattle.il_laws.proofs.SpliceBlocks.{all_append}
use Rattle.inline_budget.specs.declared.numbers.Numbers.{Numbers}
use Rattle.inline_budget.specs.Attempts.{numbers_at, room_after, IsAttempt, IsRefused}
use Rattle.inline_budget.specs.Calls.{Calls, has_number, number_at}
use Rattle.inline_budget.specs.Following.{AreBrief, IsReady, Raises, Refuses}
use Rattle.inline_budget.proofs.Tables.{all_at, set_is, has_append, or_false}
use Rattle.inline_budget.proofs.Attempts.{HasRoom, has_room, drop_next, attempt_raised}

-- a number is at most a multiple of it
times_least : (k n : ℕ) → 1 ≤ k → n ≤ k * n
times_least k n le = let more : 1 * n ≤ k * n = mul-le-mul_right n le in omega arith

module _ (T : List Numbers) (by : Numbers) (q : ℕ) (brief : AreBrief by) (ts : List ℕ) (room x m now : ℕ) (e : room_after T by q ts room x m ≡ Some now) where
  room_is : HasRoom T by q ts room x m now
  room_is = has_room T by q ts room x m now e

  pub times_few : number_at ts x + m ≤ 2 ^ 16
  times_few =
      let w = room_is.within.size in
      let least = times_least by.size (number_at ts x + m) brief.some in
      omega arith

  -- the room is less where it comes at least once
  pub room_less : 1 ≤ m → now + 1 ≤ room
  room_less some =
      let h = room_is in
      let one = times_least by.size m brief.some in
      let split = mul-add by.size (number_at ts x) m in
      let sizes : (numbers_at T x).size + by.size * number_at ts x < (numbers_at T x).size + by.size * (number_at ts x + m) = omega arith in
      let up : ((numbers_at T x).size + by.size * number_at ts x) ^ 2 < ((numbers_at T x).size + by.size * (number_at ts x + m)) ^ 2
      = pow-lt-pow_left sizes (λ bad. two 2 refl bad) in
      let enough = h.enough in
      let is = h.now_is in
      omega arith
    where
      two : (n : ℕ) → n ≡ 2 → n ≡ 0 → ⊥
      two n is none = absurd (omega arith)

  pub ready_raised : (hs ks : List ℕ) → IsReady T ts hs ks → x < length T → IsReady T (slice_set ts x (number_at ts x + m)) hs (ks ++ x ∷ [])
  ready_raised hs ks h lt =
      record {
        times = length-set ts x (number_at ts x + m) ∙ h.times;
        handed = h.handed;
        within = h.within;
        few = λ z. few z (nat_eq x z) refl;
        below = λ z. below z (nat_eq x z) refl;
        inside = all_append (λ y. y < length T) ks (x ∷ []) h.inside (lt, tt);
        touched = λ z none. touched z (or_false (has_number ks z) (nat_eq x z) (sym (has_append ks x z) ∙ none));
      }
    where
      at : (z : ℕ) (b : Bool) → nat_eq x z ≡ b → number_at (slice_set ts x (number_at ts x + m)) z ≡ (if b then number_at ts x + m else number_at ts z)
      at z b g =
          set_is ts x (number_at ts x + m) z (let size = h.times in omega arith) ∙ ap (λ (k : Bool). if k then number_at ts x + m else number_at ts z) g

      few : (z : ℕ) (b : Bool) → nat_eq x z ≡ b → number_at (slice_set ts x (number_at ts x + m)) z ≤ 2 ^ 16
      few z true g =
          let here : number_at (slice_set ts x (number_at ts x + m)) z ≡ number_at ts x + m = at z true g in
          let le = times_few in omega arith
      few z false g =
          let here : number_at (slice_set ts x (number_at ts x + m)) z ≡ number_at ts z = at z false g in
          let le = h.few z in omega arith

      below : (z : ℕ) (b : Bool) → nat_eq x z ≡ b → number_at hs z ≤ number_at (slice_set ts x (number_at ts x + m)) z
      below z true g =
          let here : number_at (slice_set ts x (number_at ts x + m)) z ≡ number_at ts x + m = at z true g in
          let there : number_at ts x ≡ number_at ts z = ap (λ (k : ℕ). number_at ts k) (eqb-true x z g) in
          let le = h.below z in omega arith
      below z false g =
          let here : number_at (slice_set ts x (number_at ts x + m)) z ≡ number_at ts z = at z false g in
          let le = h.below z in omega arith

      touched : (z : ℕ) → (has_number ks z ≡ false) × (nat_eq x z ≡ false) → number_at (slice_set ts x (number_at ts x + m)) z ≡ 0
      touched z both = at z false both.1 ∙ h.touched z both.0

-- ---- the loop

-- what holds of the tables between callers, of which these are left
pub record IsRaising (T : List Numbers) (q : ℕ) (by : Numbers) (ts hs ks : List ℕ) (room m : ℕ) (xs us js : List ℕ) (now : ℕ) (rest : List ℕ) : Type 0 where
  pub ready : IsReady T us hs js
  pub attempt : (cs : Calls) (p limit next : ℕ) → next ≤ length ks → IsAttempt cs T p q by limit ts hs ks next room m xs
      → IsAttempt cs T p q by limit us hs js next now m rest
  pub less : now + length js ≤ room + length ks
  pub longer : length ks ≤ length js

-- nothing is left: then how often doesn't matter
pub nothing_left : (cs : Calls) (T : List Numbers) (p q : ℕ) (by : Numbers) (limit : ℕ) (ts hs ks : List ℕ) (next room m n : ℕ)
    → IsAttempt cs T p q by limit ts hs ks next room m [] → IsAttempt cs T p q by limit ts hs ks next room n []
nothing_left cs T p q by limit ts hs ks next room m n h =
    record {
      times = h.times;
      below = h.below;
      free = h.free;
      within = h.within;
      budget = h.budget;
      waiting = h.waiting;
      ranks = h.ranks;
      rest_ranks = λ r falls. tt;
    }

module _ (T : List Numbers) (q : ℕ) (by : Numbers) (brief : AreBrief by) (ts hs ks : List ℕ) (room m : ℕ) (xs : List ℕ) where
  pub raising_start : IsReady T ts hs ks → IsRaising T q by ts hs ks room m xs ts ks room xs
  raising_start h = record { ready = h; attempt = λ cs p limit next le a. a; less = omega arith; longer = omega arith }

  module _ (us js : List ℕ) (now x : ℕ) (rest : List ℕ) (h : IsRaising T q by ts hs ks room m xs us js now (x ∷ rest)) (lt : x < length T) where
    pub raising_step : (left : ℕ) → room_after T by q us now x m ≡ Some left → 1 ≤ m
        → IsRaising T q by ts hs ks room m xs (slice_set us x (number_at us x + m)) (js ++ x ∷ []) left rest
    raising_step left e some =
        let fewer = room_less T by q brief us now x m left e some in
        let long : length (js ++ x ∷ []) ≡ length js + 1 = length-append js (x ∷ []) in
        let less = h.less in
        let longer = h.longer in
        record {
          ready = ready_raised T by q brief us now x m left e hs js h.ready lt;
          attempt = λ cs p limit next le a.
              attempt_raised cs T p q by limit us hs js next now m x rest (h.attempt cs p limit next le a) left e lt h.ready.times (long_enough next le);
          less = omega arith;
          longer = omega arith;
        }
      where
        long_enough : (next : ℕ) → next ≤ length ks → next ≤ length js
        long_enough next le = let longer = h.longer in omega arith

    pub raising_refused : room_after T by q us now x m ≡ None → (cs : Calls) (p limit next : ℕ) → next ≤ length ks
        → IsAttempt cs T p q by limit ts hs ks next room m xs → IsRefused cs T p q by limit
    raising_refused e cs p limit next le a =
        record {
          ts = us;
          hs = hs;
          ks = js;
          next = next;
          room = now;
          m = m;
          x = x;
          rest = rest;
          attempt = h.attempt cs p limit next le a;
          inside = (lt, h.ready.times);
          refused = e;
        }

  pub raising_end : (us js : List ℕ) (now : ℕ) → IsRaising T q by ts hs ks room m xs us js now [] → (cs : Calls) (p limit next : ℕ) → next ≤ length ks
      → IsAttempt cs T p q by limit ts hs ks next room m xs → IsAttempt cs T p q by limit us hs js next now 0 []
  raising_end us js now h cs p limit next le a = nothing_left cs T p q by limit us hs js next now m 0 (h.attempt cs p limit next le a)

-- the loop at a place of its list
module _ (T : List Numbers) (q : ℕ) (by : Numbers) (brief : AreBrief by) (ts hs ks : List ℕ) (room m : ℕ) (xs us js : List ℕ) (now i : ℕ)
    (h : IsRaising T q by ts hs ks room m xs us js now (drop i xs)) where
  module _ (lt : i < length xs) (inside : AllByRecursion (λ x. x < length T) xs) (d : ℕ) where
    here : IsRaising T q by ts hs ks room m xs us js now (get_or xs i d ∷ drop (suc i) xs)
    here = subst (IsRaising T q by ts hs ks room m xs us js now) (drop_next i xs d lt) h

    pub raised_here : (vs is : List ℕ) (left : ℕ) → vs ≡ slice_set us (get_or xs i d) (number_at us (get_or xs i d) + m) → is ≡ js ++ get_or xs i d ∷ []
        → room_after T by q us now (get_or xs i d) m ≡ Some left → 1 ≤ m → IsRaising T q by ts hs ks room m xs vs is left (drop (i + 1) xs)
    raised_here vs is left ev ei e some =
        let next : suc i ≡ i + 1 = omega arith in
        subst (λ (n : ℕ). IsRaising T q by ts hs ks room m xs vs is left (drop n xs)) next
        (subst (λ (zs : List ℕ). IsRaising T q by ts hs ks room m xs zs is left (drop (suc i) xs)) (sym ev)
        (subst (λ (zs : List ℕ). IsRaising T q by ts hs ks room m xs (slice_set us (get_or xs i d) (number_at us (get_or xs i d) + m)) zs left
        (drop (suc i) xs))
        (sym ei)
        (raising_step T q by brief ts hs ks room m xs us js now (get_or xs i d) (drop (suc i) xs) here (all_at (λ x. x < length T) xs i d inside lt) left e
        some)))

    pub refused_here : room_after T by q us now (get_or xs i d) m ≡ None → Refuses T q by ts hs ks room m xs
    refused_here e =
        raising_refused T q by brief ts hs ks room m xs us js now (get_or xs i d) (drop (suc i) xs) here (all_at (λ x. x < length T) xs i d inside lt) e

  pub raised_end : length xs ≤ i → Raises T q by ts hs ks room m xs us js now
  raised_end end =
      raising_end T q by brief ts hs ks room m xs us js now
      (subst (IsRaising T q by ts hs ks room m xs us js now) (drop_all i xs end) h)

-- ---- a routine hands on

pub ready_handed : (T : List Numbers) (ts hs ks : List ℕ) (y : ℕ) → IsReady T ts hs ks → y < length T → IsReady T ts (slice_set hs y (number_at ts y)) ks
ready_handed T ts hs ks y h lt =
    record {
      times = h.times;
      handed = length-set hs y (number_at ts y) ∙ h.handed;
      within = h.within;
      few = h.few;
      below = λ z. below z (nat_eq y z) refl;
      inside = h.inside;
      touched = h.touched;
    }
  where
    below : (z : ℕ) (b : Bool) → nat_eq y z ≡ b → number_at (slice_set hs y (number_at ts y)) z ≤ number_at ts z
    below z b g = by_test b (set_is hs y (number_at ts y) z (let size = h.handed in omega arith) ∙ ap
        (λ (k : Bool). if k then number_at ts y else number_at hs z) g) g
      where
        by_test : (b : Bool) → number_at (slice_set hs y (number_at ts y)) z ≡ (if b then number_at ts y else number_at hs z) → nat_eq y z ≡ b
            → number_at (slice_set hs y (number_at ts y)) z ≤ number_at ts z
        by_test true at e = let there : number_at ts y ≡ number_at ts z = ap (λ (k : ℕ). number_at ts k) (eqb-true y z e) in omega arith
        by_test false at e = let le = h.below z in omega arith
