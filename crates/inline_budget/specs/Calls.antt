-- Accepted calls, by their callers and by their callees.
use Rattle.std.specs.Prelude.{◌≡◌, ⊤, ◌||◌, ℕ, ◌+◌, Bool, true, false, List, [], ◌∷◌, map, nat_eq, slice_index_or, if◌then◌else◌}
use Rattle.plan_laws.specs.Numbers as plan
use Rattle.inline_budget.specs.declared.choice.Choice.{Choice}

-- an accepted call as the laws of the plan have it
abbrev pub call_of : Choice → plan.Choice
call_of c = record { caller = c.caller; site = c.site; callee = c.callee }

-- accepted calls as the laws of the plan have them
abbrev pub Calls : Type 0
Calls = List plan.Choice

abbrev pub calls_of : List Choice → Calls
calls_of cs = map call_of cs

-- a table's number for a routine
abbrev pub number_at : List ℕ → ℕ → ℕ
number_at ts x = slice_index_or ts x 0

abbrev pub only_if : Bool → ℕ → ℕ
only_if true n = n
only_if false n = 0

-- the sum of what f gives at the callees of a routine's calls
abbrev pub calls_sum : Calls → (ℕ → ℕ) → ℕ → ℕ
calls_sum [] f x = 0
calls_sum (c ∷ cs) f x = only_if (nat_eq c.caller x) (f c.callee) + calls_sum cs f x

-- the callers of the calls to a routine
abbrev pub callers_of : Calls → ℕ → List ℕ
callers_of [] y = []
callers_of (c ∷ cs) y = if nat_eq c.callee y then c.caller ∷ callers_of cs y else callers_of cs y

-- m for each time that x stands in a list
abbrev pub shares : ℕ → ℕ → List ℕ → ℕ
shares m x [] = 0
shares m x (y ∷ ys) = only_if (nat_eq y x) m + shares m x ys

-- whether a number stands in a list
abbrev pub has_number : List ℕ → ℕ → Bool
has_number [] x = false
has_number (y ∷ ys) x = nat_eq y x || has_number ys x

-- no number stands twice
abbrev pub IsOnce : List ℕ → Type 0
IsOnce [] = ⊤
IsOnce (x ∷ xs) = (has_number xs x ≡ false) × IsOnce xs
