-- How far accepted calls lead, whether they lead back, and which routines are done at one time.
use Rattle.std.specs.Prelude.{ℕ, zero, suc, ◌||◌, Bool, false, List, [], ◌∷◌, length, filter, nat_eq, nat_le, nat_lt, if◌then◌else◌}
use Rattle.std.specs.List.{list_all}
use Rattle.plan_laws.specs.Orders.{sorted, greatest}
use Rattle.plan_laws.specs.Numbers.{Choice}

abbrev pub calls_from : List Choice → ℕ → List Choice
calls_from cs pid = filter (λ c. nat_eq c.caller pid) cs

-- the length of the longest chain of calls from a routine, counted up to a bound
abbrev pub chain : List Choice → ℕ → ℕ → ℕ
chain cs zero pid = 0
chain cs (suc n) pid = greatest (λ c. suc (chain cs n c.callee)) (calls_from cs pid)

-- The level of a routine: 0 without accepted sites, else one more than the greatest of its callees.
abbrev pub level : List Choice → ℕ → ℕ
level cs pid = chain cs (suc (length cs)) pid

-- Free of cycles: no chain of calls is longer than there are calls.
abbrev pub is_acyclic : List Choice → Bool
is_acyclic cs = list_all (λ c. nat_le (level cs c.caller) (length cs)) cs

abbrev pub is_caller : List Choice → ℕ → Bool
is_caller [] pid = false
is_caller (c ∷ cs) pid = nat_eq c.caller pid || is_caller cs pid

-- the callers, each once
abbrev pub callers : List Choice → List ℕ
callers [] = []
callers (c ∷ cs) = if is_caller cs c.caller then callers cs else c.caller ∷ callers cs

-- the callers of so many levels from level k on, by PID
abbrev pub waves_from : List Choice → ℕ → ℕ → List (List ℕ)
waves_from cs k zero = []
waves_from cs k (suc n) = sorted nat_lt (filter (λ pid. nat_eq (level cs pid) k) (callers cs)) ∷ waves_from cs (suc k) n

-- the greatest level
abbrev pub height : List Choice → ℕ
height cs = greatest (λ c. level cs c.caller) cs

-- One wave for each level from 1 on.
abbrev pub waves : List Choice → List (List ℕ)
waves cs = waves_from cs 1 (height cs)
