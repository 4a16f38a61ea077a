-- What following callers does to the tables, whatever the accepted calls are.
use Rattle.std.specs.Prelude.{◌≡◌, ℕ, suc, ◌+◌, ◌<◌, ◌≤◌, false, List, [], ◌∷◌, length, slice_index_or}
use Rattle.std.specs.List.{AllByRecursion}
use Rattle.il_core.specs.Limits.{max_size}
use Rattle.inline_budget.specs.declared.numbers.Numbers.{Numbers}
use Rattle.inline_budget.specs.Attempts.{AreFew, IsWithin, IsAttempt, IsRefused, IsTaken, grown, numbers_at, squares}
use Rattle.inline_budget.specs.Calls.{Calls, callers_of, has_number, number_at}

-- what a call brings: a size of at least 1, and not too much for sums
pub record AreBrief (by : Numbers) : Type 0 where
  pub some : 1 ≤ by.size
  pub few : AreFew by

-- tables that go up to the same PID, within what sums allow; what has come to a routine is in the queue
pub record IsReady (T : List Numbers) (ts hs ks : List ℕ) : Type 0 where
  pub times : length ts ≡ length T
  pub handed : length hs ≡ length T
  pub within : (x : ℕ) → IsWithin (numbers_at T x)
  pub few : (x : ℕ) → number_at ts x ≤ max_size
  pub below : (x : ℕ) → number_at hs x ≤ number_at ts x
  pub inside : AllByRecursion (λ x. x < length T) ks
  pub touched : (x : ℕ) → has_number ks x ≡ false → number_at ts x ≡ 0

-- the numbers came m times to each of some routines
abbrev pub Raises : List Numbers → ℕ → Numbers → List ℕ → List ℕ → List ℕ → ℕ → ℕ → List ℕ → List ℕ → List ℕ → ℕ → Type 0
Raises T q by ts hs ks room m xs us js now =
    (cs : Calls) (p limit next : ℕ) → next ≤ length ks → IsAttempt cs T p q by limit ts hs ks next room m xs
    → IsAttempt cs T p q by limit us hs js next now 0 []

-- they may not come to all of them
abbrev pub Refuses : List Numbers → ℕ → Numbers → List ℕ → List ℕ → List ℕ → ℕ → ℕ → List ℕ → Type 0
Refuses T q by ts hs ks room m xs =
    (cs : Calls) (p limit next : ℕ) → next ≤ length ks → IsAttempt cs T p q by limit ts hs ks next room m xs → IsRefused cs T p q by limit

-- the next routine of the queue has handed on
abbrev pub Hands : List Numbers → ℕ → Numbers → List ℕ → List ℕ → List ℕ → ℕ → ℕ → List ℕ → List ℕ → List ℕ → List ℕ → ℕ → Type 0
Hands T q by ts hs ks room y xs us gs js now =
    (cs : Calls) (p limit next : ℕ) → next < length ks → y ≡ slice_index_or ks next y → xs ≡ callers_of cs y
    → IsAttempt cs T p q by limit ts hs ks next room 0 [] → IsAttempt cs T p q by limit us gs js (suc next) now 0 []

-- it may not
abbrev pub HandsNot : List Numbers → ℕ → Numbers → List ℕ → List ℕ → List ℕ → ℕ → ℕ → List ℕ → Type 0
HandsNot T q by ts hs ks room y xs =
    (cs : Calls) (p limit next : ℕ) → next < length ks → y ≡ slice_index_or ks next y → xs ≡ callers_of cs y
    → IsAttempt cs T p q by limit ts hs ks next room 0 [] → IsRefused cs T p q by limit

-- the lists are the callers of calls
abbrev pub AreCallers : Calls → List (List ℕ) → Type 0
AreCallers cs lists = (y : ℕ) → slice_index_or lists y [] ≡ callers_of cs y

-- all callers were followed
abbrev pub Follows : List Numbers → ℕ → Numbers → List (List ℕ) → List ℕ → List ℕ → List ℕ → ℕ → List ℕ → ℕ → Type 0
Follows T q by lists ts hs ks room us now =
    (cs : Calls) (p limit : ℕ) → AreCallers cs lists → IsAttempt cs T p q by limit ts hs ks 0 room 0 [] → IsTaken cs T p q by limit us now

abbrev pub FollowsNot : List Numbers → ℕ → Numbers → List (List ℕ) → List ℕ → List ℕ → List ℕ → ℕ → Type 0
FollowsNot T q by lists ts hs ks room =
    (cs : Calls) (p limit : ℕ) → AreCallers cs lists → IsAttempt cs T p q by limit ts hs ks 0 room 0 [] → IsRefused cs T p q by limit

-- the numbers came to p, and all callers were followed
abbrev pub Spreads : List Numbers → ℕ → ℕ → Numbers → List (List ℕ) → List ℕ → List ℕ → List ℕ → ℕ → List ℕ → ℕ → Type 0
Spreads T p q by lists ts hs ks room us now =
    (cs : Calls) (limit : ℕ) → AreCallers cs lists → IsAttempt cs T p q by limit ts hs ks 0 room 1 (p ∷ []) → IsTaken cs T p q by limit us now

abbrev pub SpreadsNot : List Numbers → ℕ → ℕ → Numbers → List (List ℕ) → List ℕ → List ℕ → List ℕ → ℕ → Type 0
SpreadsNot T p q by lists ts hs ks room =
    (cs : Calls) (limit : ℕ) → AreCallers cs lists → IsAttempt cs T p q by limit ts hs ks 0 room 1 (p ∷ []) → IsRefused cs T p q by limit

-- ---- a whole attempt

-- the lists are the callers of some calls
pub record HasCalls (lists : List (List ℕ)) : Type 0 where
  pub calls : Calls
  pub are : AreCallers calls lists

-- the tables are empty, and go up to the same PID as the numbers, which are within the limits
pub record IsIdle (T : List Numbers) (ts hs ks : List ℕ) : Type 0 where
  pub times : length ts ≡ length T
  pub handed : length hs ≡ length T
  pub within : (x : ℕ) → IsWithin (numbers_at T x)
  pub no_times : (x : ℕ) → number_at ts x ≡ 0
  pub no_handed : (x : ℕ) → number_at hs x ≡ 0
  pub no_queue : ks ≡ []

-- the call is taken: each routine's numbers grow as often as those of q come to it
pub record Grows (T : List Numbers) (p q : ℕ) (by : Numbers) (lists : List (List ℕ)) (room : ℕ) (U : List Numbers) (now : ℕ) : Type 0 where
  pub ts : List ℕ
  pub size : length ts ≡ length T
  pub long : length U ≡ length T
  pub grows : (x : ℕ) → numbers_at U x ≡ grown (numbers_at T x) by (number_at ts x)
  pub taken : (cs : Calls) (limit : ℕ) → AreCallers cs lists → room + squares T 0 [] ≡ limit → IsTaken cs T p q by limit ts now

-- it is refused
abbrev pub GrowsNot : List Numbers → ℕ → ℕ → Numbers → List (List ℕ) → ℕ → Type 0
GrowsNot T p q by lists room =
    (cs : Calls) (limit : ℕ) → AreCallers cs lists → room + squares T 0 [] ≡ limit → IsRefused cs T p q by limit
