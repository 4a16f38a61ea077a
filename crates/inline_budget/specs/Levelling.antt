-- The levels of routines, found from those without accepted calls on.
use Rattle.std.specs.Prelude.{ℕ, suc, ◌+◌, ◌-◌, max, List, [], ◌∷◌, ◌++◌, nat_eq, nat_lt, slice_set, if◌then◌else◌}
use Rattle.inline_budget.specs.Buckets.{put_in}
use Rattle.inline_budget.specs.Calls.{Calls, number_at}

-- the callers of calls put to their callees
abbrev pub filed : List (List ℕ) → Calls → List (List ℕ)
filed ls [] = ls
filed ls (c ∷ cs) = filed (put_in ls c.callee c.caller) cs

-- the calls counted at their callers
abbrev pub counted : List ℕ → Calls → List ℕ
counted ts [] = ts
counted ts (c ∷ cs) = counted (slice_set ts c.caller (number_at ts c.caller + 1)) cs

-- one call less, at each routine of a list
abbrev pub lowered : List ℕ → ℕ → List ℕ
lowered ts x = slice_set ts x (number_at ts x - 1)

abbrev pub lowered_all : List ℕ → List ℕ → List ℕ
lowered_all ts [] = ts
lowered_all ts (x ∷ xs) = lowered_all (lowered ts x) xs

-- a level, where that which is known is less, at each routine of a list
abbrev pub risen : List ℕ → ℕ → ℕ → List ℕ
risen ls l x = slice_set ls x (max (number_at ls x) l)

abbrev pub risen_all : List ℕ → ℕ → List ℕ → List ℕ
risen_all ls l [] = ls
risen_all ls l (x ∷ xs) = risen_all (risen ls l x) l xs

-- a routine noted where no call of it is left
abbrev pub noted : List ℕ → List ℕ → ℕ → List ℕ
noted ts ks x = if nat_eq (number_at ts x) 0 then ks ++ x ∷ [] else ks

abbrev pub noted_all : List ℕ → List ℕ → List ℕ → List ℕ
noted_all ts ks [] = ks
noted_all ts ks (x ∷ xs) = noted_all (lowered ts x) (noted (lowered ts x) ks x) xs

-- the routines from number k on, each put to the list of its level, of which the first one is 1
abbrev pub levelled : List (List ℕ) → ℕ → List ℕ → List (List ℕ)
levelled ws k [] = ws
levelled ws k (l ∷ ls) = levelled (if nat_lt 0 l then put_in ws (l - 1) k else ws) (suc k) ls

-- the numbers from k on at which a table has 0
abbrev pub zeros : ℕ → List ℕ → List ℕ
zeros k [] = []
zeros k (t ∷ ts) = if nat_eq t 0 then k ∷ zeros (suc k) ts else zeros (suc k) ts

-- one more than the greatest PID
abbrev pub bound_of : Calls → ℕ
bound_of [] = 0
bound_of (c ∷ cs) = max (max (suc c.caller) (suc c.callee)) (bound_of cs)
