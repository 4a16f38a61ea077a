-- What the loop over the queue takes from the tables.
use Rattle.std.proofs.Common.{◌≡◌, ℕ, zero, suc, ◌+◌, ◌-◌, ◌<◌, ◌≤◌, List, [], ◌∷◌, length, get_or, Bool, true, false, Result, Ok, Err, refl, ap, subst}
use Rattle.std.proofs.Common.{sym, ◌∙◌, arith}
use Rattle.std.specs.Prelude.{slice_set, slice_index_or, IfOk}
use Rattle.std.proofs.lemmas.Result.{IfOk-weaker}
use Rattle.inline_budget.proofs.Levelled.{any_default}
use Rattle.inline_budget.specs.declared.numbers.Numbers.{Numbers}
use Rattle.inline_budget.specs.Attempts.{IsAttempt, IsRefused, IsTaken}
use Rattle.inline_budget.specs.Calls.{Calls, number_at}
use Rattle.inline_budget.specs.Following.{AreCallers, Follows, FollowsNot, Hands, HandsNot, IsReady, Raises, Refuses, Spreads, SpreadsNot}
use Rattle.inline_budget.proofs.Attempts.{attempt_handed, attempt_passed, attempt_done}

module _ (T : List Numbers) (q : ℕ) (by : Numbers) (ts hs ks : List ℕ) (room y more : ℕ) (xs : List ℕ) (more_is : more ≡ number_at ts y - number_at hs y)
    (inside : y < length hs) where
  abbrev gs : List ℕ
  gs = slice_set hs y (number_at ts y)

  pub hands_nothing : more ≡ 0 → Hands T q by ts hs ks room y xs ts gs ks room
  hands_nothing none cs p limit next lt is xs_are h =
      attempt_passed cs T p q by limit ts hs ks next room 0 h lt y is inside more more_is none

  pub hands_more : (us fs js : List ℕ) (now : ℕ) → fs ≡ gs → 0 < more → Raises T q by ts gs ks room more xs us js now
      → Hands T q by ts hs ks room y xs us fs js now
  hands_more us fs js now same some raises cs p limit next lt is xs_are h =
      subst (λ (es : List ℕ). IsAttempt cs T p q by limit us es js (suc next) now 0 []) (sym same)
      (raises cs p limit (suc next) (omega arith) (attempt_handed cs T p q by limit ts hs ks next room 0 h lt y is inside more more_is xs xs_are some))

  pub hands_not : 0 < more → Refuses T q by ts gs ks room more xs → HandsNot T q by ts hs ks room y xs
  hands_not some refuses cs p limit next lt is xs_are h =
      refuses cs p limit (suc next) (omega arith) (attempt_handed cs T p q by limit ts hs ks next room 0 h lt y is inside more more_is xs xs_are some)

positive : (n : ℕ) → (n ≡ 0 → ⊥) → 0 < n
positive zero ne = absurd (ne refl)
positive (suc n) ne = omega arith

-- both of a result's promises
both_ok : {X E : Type 0} (r : Result X E) (P Q R : X → Type 0) → ((x : X) → P x → Q x → R x) → IfOk r P → IfOk r Q → IfOk r R
both_ok (Ok x) P Q R f p q = f x p q
both_ok (Err e) P Q R f p q = tt

-- the numbers as they are read
module _ (T : List Numbers) (q : ℕ) (by : Numbers) (ts hs ks : List ℕ) (room y v w : ℕ) (xs : List ℕ) (v_is : v ≡ slice_index_or ts y v)
    (w_is : w ≡ slice_index_or hs y w) (in_ts : y < length ts) (in_hs : y < length hs) where
  v_at : v ≡ number_at ts y
  v_at = v_is ∙ any_default ts y v 0 in_ts

  more_at : v - w ≡ number_at ts y - number_at hs y
  more_at = let a = v_at in let b : w ≡ number_at hs y = w_is ∙ any_default hs y w 0 in_hs in omega arith

  written : slice_set hs y v ≡ slice_set hs y (number_at ts y)
  written = ap (λ (n : ℕ). slice_set hs y n) v_at

  pub handed_none : v - w ≡ 0 → Hands T q by ts hs ks room y xs ts (slice_set hs y v) ks room
  handed_none none cs p limit next lt is xs_are h =
      subst (λ (es : List ℕ). IsAttempt cs T p q by limit ts es ks (suc next) room 0 []) (sym written)
      (hands_nothing T q by ts hs ks room y (v - w) xs more_at in_hs none cs p limit next lt is xs_are h)

  pub handed_some : {E : Type 0} (r : Result Bool E) (us fs js : List ℕ) (now : ℕ) → (v - w ≡ 0 → ⊥) → IfOk r (λ _. fs ≡ slice_set hs y v)
      → IfOk r (λ b. b ≡ true → Raises T q by ts (slice_set hs y v) ks room (v - w) xs us js now)
      → IfOk r (λ b. b ≡ true → Hands T q by ts hs ks room y xs us fs js now)
  handed_some r us fs js now ne same raised =
      both_ok r (λ _. fs ≡ slice_set hs y v) (λ b. b ≡ true → Raises T q by ts (slice_set hs y v) ks room (v - w) xs us js now)
      (λ b. b ≡ true → Hands T q by ts hs ks room y xs us fs js now)
      (λ b e raises is. hands_more T q by ts hs ks room y (v - w) xs more_at in_hs us fs js now (e ∙ written) (positive (v - w) ne)
      (subst (λ (es : List ℕ). Raises T q by ts es ks room (v - w) xs us js now) written (raises is))) same raised

  pub handed_not : {E : Type 0} (r : Result Bool E) → (v - w ≡ 0 → ⊥)
      → IfOk r (λ b. b ≡ false → Refuses T q by ts (slice_set hs y v) ks room (v - w) xs) → IfOk r (λ b. b ≡ false → HandsNot T q by ts hs ks room y xs)
  handed_not r ne refused =
      IfOk-weaker r (λ b. b ≡ false → Refuses T q by ts (slice_set hs y v) ks room (v - w) xs) (λ b. b ≡ false → HandsNot T q by ts hs ks room y xs)
      (λ b refuses is. hands_not T q by ts hs ks room y (v - w) xs more_at in_hs (positive (v - w) ne)
      (subst (λ (es : List ℕ). Refuses T q by ts es ks room (v - w) xs) written (refuses is))) refused

-- ---- the loop

pub record IsFollowing (T : List Numbers) (q : ℕ) (by : Numbers) (lists : List (List ℕ)) (ts hs ks : List ℕ) (room : ℕ) (us gs js : List ℕ) (next now : ℕ) :
    Type 0 where
  pub ready : IsReady T us gs js
  pub attempt : (cs : Calls) (p limit : ℕ) → AreCallers cs lists → IsAttempt cs T p q by limit ts hs ks 0 room 0 []
      → IsAttempt cs T p q by limit us gs js next now 0 []
  pub within : next ≤ length js

module _ (T : List Numbers) (q : ℕ) (by : Numbers) (lists : List (List ℕ)) (ts hs ks : List ℕ) (room : ℕ) where
  pub following_start : IsReady T ts hs ks → IsFollowing T q by lists ts hs ks room ts hs ks 0 room
  following_start h = record { ready = h; attempt = λ cs p limit are a. a; within = omega arith }

  module _ (us gs js : List ℕ) (next now y : ℕ) (xs : List ℕ) (h : IsFollowing T q by lists ts hs ks room us gs js next now) (lt : next < length js)
      (y_is : y ≡ get_or js next y) (xs_are : xs ≡ slice_index_or lists y []) where
    pub following_step : (vs fs is : List ℕ) (left : ℕ) → IsReady T vs fs is → length js ≤ length is → Hands T q by us gs js now y xs vs fs is left
        → IsFollowing T q by lists ts hs ks room vs fs is (next + 1) left
    following_step vs fs is left ready longer hands =
        let same : suc next ≡ next + 1 = omega arith in
        record {
          ready = ready;
          attempt = λ cs p limit are a.
              subst (λ (n : ℕ). IsAttempt cs T p q by limit vs fs is n left 0 []) same
              (hands cs p limit next lt y_is (xs_are ∙ are y) (h.attempt cs p limit are a));
          within = omega arith;
        }

    pub following_not : HandsNot T q by us gs js now y xs → (cs : Calls) (p limit : ℕ) → AreCallers cs lists
        → IsAttempt cs T p q by limit ts hs ks 0 room 0 [] → IsRefused cs T p q by limit
    following_not not cs p limit are a = not cs p limit next lt y_is (xs_are ∙ are y) (h.attempt cs p limit are a)

  pub following_end : (us gs js : List ℕ) (next now : ℕ) → IsFollowing T q by lists ts hs ks room us gs js next now → length js ≤ next
      → (cs : Calls) (p limit : ℕ) → AreCallers cs lists → IsAttempt cs T p q by limit ts hs ks 0 room 0 [] → IsTaken cs T p q by limit us now
  following_end us gs js next now h end cs p limit are a =
      attempt_done cs T p q by limit us gs js next now 0 (h.attempt cs p limit are a) end

-- ---- from the caller on

module _ (T : List Numbers) (p q : ℕ) (by : Numbers) (lists : List (List ℕ)) (ts hs ks : List ℕ) (room : ℕ) (us gs js : List ℕ) (now : ℕ)
    (same : gs ≡ hs) (raised : Raises T q by ts hs ks room 1 (p ∷ []) us js now) where
  started : (cs : Calls) (limit : ℕ) → IsAttempt cs T p q by limit ts hs ks 0 room 1 (p ∷ []) → IsAttempt cs T p q by limit us gs js 0 now 0 []
  started cs limit a = subst (λ (es : List ℕ). IsAttempt cs T p q by limit us es js 0 now 0 []) (sym same) (raised cs p limit 0 (omega arith) a)

  pub spread_taken : {E : Type 0} (r : Result Bool E) (vs : List ℕ) (left : ℕ) → IfOk r (λ b. b ≡ true → Follows T q by lists us gs js now vs left)
      → IfOk r (λ b. b ≡ true → Spreads T p q by lists ts hs ks room vs left)
  spread_taken r vs left follows =
      IfOk-weaker r (λ b. b ≡ true → Follows T q by lists us gs js now vs left) (λ b. b ≡ true → Spreads T p q by lists ts hs ks room vs left)
      (λ b f is cs limit are a. f is cs p limit are (started cs limit a)) follows

  pub spread_not : {E : Type 0} (r : Result Bool E) → IfOk r (λ b. b ≡ false → FollowsNot T q by lists us gs js now)
      → IfOk r (λ b. b ≡ false → SpreadsNot T p q by lists ts hs ks room)
  spread_not r follows =
      IfOk-weaker r (λ b. b ≡ false → FollowsNot T q by lists us gs js now) (λ b. b ≡ false → SpreadsNot T p q by lists ts hs ks room)
      (λ b f is cs limit are a. f is cs p limit are (started cs limit a)) follows
