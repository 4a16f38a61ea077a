-- The calls of a memory form, which fails at the calls that it was told to fail at.
use Rattle.std.specs.Prelude.{◌≡◌, ℕ, ◌+◌, ◌-◌, ◌^◌, ◌≤◌, min, List, Contains, Result, MatchResult}

-- the numbers of the calls that fail, counted from 1; how many calls were made; how many failed
pub record CallCounts : Type 0 where
  pub failing : List ℕ
  pub made : ℕ
  pub faults : ℕ

-- one more; the last value, 2^64 - 1, stays
abbrev pub one_more : ℕ → ℕ
one_more n = min (n + 1) (2 ^ 64 - 1)

-- the number of the next call is among those that fail
abbrev pub FailsNext : CallCounts → Type 0
FailsNext calls = Contains calls.failing (calls.made + 1)

-- one more call was made, and one more fault counted exactly at an error; the count of faults never falls
pub record CountsCall {T E : Type 0} (old new : CallCounts) (result : Result T E) : Type 0 where
  pub list : new.failing ≡ old.failing
  pub made : new.made ≡ one_more old.made
  pub later : old.faults ≤ new.faults
  pub faults : MatchResult result (λ _. new.faults ≡ old.faults) (λ _. new.faults ≡ one_more old.faults)
