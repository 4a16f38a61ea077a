-- A call that may be inlined: how often its callee's numbers come to each routine, found from its caller on.
use Rattle.std.specs.Prelude.{◌≡◌, ℕ, ◌+◌, ◌-◌, ◌*◌, ◌^◌, ◌<◌, ◌≤◌, true, length, List, [], ◌∷◌, Option, Some, None, drop, nat_eq, nat_le}
use Rattle.std.specs.Prelude.{if◌then◌else◌, slice_index_or}
use Rattle.std.specs.List.{AllByRecursion}
use Rattle.il_core.specs.Limits.{max_arrays, max_elements, max_registers, max_size}
use Rattle.plan_laws.specs.ChoiceLaws.{Falls}
use Rattle.plan_laws.specs.Numbers as plan
use Rattle.inline_budget.specs.declared.numbers.Numbers.{Numbers}
use Rattle.inline_budget.specs.Calls.{Calls, only_if, calls_sum, shares, number_at, has_number}

abbrev pub no_numbers : Numbers
no_numbers = record { size = 0; regs = 0; arrays = 0; elements = 0 }

-- a table's numbers of a routine
abbrev pub numbers_at : List Numbers → ℕ → Numbers
numbers_at T x = slice_index_or T x no_numbers

-- as the laws of the plan have them
abbrev pub plain : Numbers → plan.Numbers
plain n = record { size = n.size; regs = n.regs; arrays = n.arrays; elements = n.elements }

-- with other numbers so many times
abbrev pub grown : Numbers → Numbers → ℕ → Numbers
grown n by t =
    record {
      size = n.size + by.size * t;
      regs = n.regs + by.regs * t;
      arrays = n.arrays + by.arrays * t;
      elements = n.elements + by.elements * t;
    }

-- within the limits of the language
pub record IsWithin (n : Numbers) : Type 0 where
  pub size : n.size ≤ max_size
  pub regs : n.regs ≤ max_registers
  pub arrays : n.arrays ≤ max_arrays
  pub elements : n.elements ≤ max_elements

-- the squares of the sizes that routines have with a callee's numbers so many times
abbrev pub squares : List Numbers → ℕ → List ℕ → ℕ
squares [] by ts = 0
squares (n ∷ T) by [] = n.size ^ 2 + squares T by []
squares (n ∷ T) by (t ∷ ts) = (n.size + by * t) ^ 2 + squares T by ts

-- how much the square of a size rises
abbrev pub rise : ℕ → ℕ → ℕ
rise old now = now ^ 2 - old ^ 2

-- the room that the budget has left, where a callee's numbers come m times more to routine x
abbrev pub room_after : List Numbers → Numbers → ℕ → List ℕ → ℕ → ℕ → ℕ → Option ℕ
room_after T by q ts room x m =
    if nat_eq x q then None else
    (if plan.is_within (plain (grown (numbers_at T x) by (number_at ts x + m))) then
    (if nat_le (rise (grown (numbers_at T x) by (number_at ts x)).size (grown (numbers_at T x) by (number_at ts x + m)).size) room then
    Some (room - rise (grown (numbers_at T x) by (number_at ts x)).size (grown (numbers_at T x) by (number_at ts x + m)).size) else None) else None)

-- While callers are followed from p on: `ts` says how often the numbers of q with what a call adds come to each routine,
-- `hs` how often that was handed on to its callers. They are still to come m times to each of `rest`.
pub record IsAttempt (cs : Calls) (T : List Numbers) (p q : ℕ) (by : Numbers) (limit : ℕ) (ts hs ks : List ℕ) (next room m : ℕ) (rest : List ℕ) : Type 0 where
  pub times : (x : ℕ) → number_at ts x + shares m x rest ≡ only_if (nat_eq x p) 1 + calls_sum cs (number_at hs) x
  pub below : (x : ℕ) → number_at hs x ≤ number_at ts x
  -- it hasn't come to q
  pub free : number_at ts q ≡ 0
  pub within : (x : ℕ) → IsWithin (grown (numbers_at T x) by (number_at ts x))
  pub budget : room + squares T by.size ts ≡ limit
  -- what isn't handed on waits in the queue, and all to which it came are there
  pub waiting : (x : ℕ) → (number_at hs x ≡ number_at ts x → ⊥) → has_number (drop next ks) x ≡ true
  pub ranks : (r : ℕ → ℕ) → Falls r cs → (x : ℕ) → (number_at ts x ≡ 0 → ⊥) → r p ≤ r x
  pub rest_ranks : (r : ℕ → ℕ) → Falls r cs → AllByRecursion (λ x. r p ≤ r x) rest

-- It came to all routines, and within the limits.
pub record IsTaken (cs : Calls) (T : List Numbers) (p q : ℕ) (by : Numbers) (limit : ℕ) (ts : List ℕ) (room : ℕ) : Type 0 where
  pub times : (x : ℕ) → number_at ts x ≡ only_if (nat_eq x p) 1 + calls_sum cs (number_at ts) x
  pub free : number_at ts q ≡ 0
  pub within : (x : ℕ) → IsWithin (grown (numbers_at T x) by (number_at ts x))
  pub budget : room + squares T by.size ts ≡ limit

-- It may not come to some routine.
pub record IsRefused (cs : Calls) (T : List Numbers) (p q : ℕ) (by : Numbers) (limit : ℕ) : Type 0 where
  pub ts : List ℕ
  pub hs : List ℕ
  pub ks : List ℕ
  pub next : ℕ
  pub room : ℕ
  pub m : ℕ
  pub x : ℕ
  pub rest : List ℕ
  pub attempt : IsAttempt cs T p q by limit ts hs ks next room m (x ∷ rest)
  pub inside : (x < length T) × (length ts ≡ length T)
  pub refused : room_after T by q ts room x m ≡ None

-- numbers that a callee's are below
pub record AreFew (n : Numbers) : Type 0 where
  pub size : n.size ≤ 2 ^ 36
  pub regs : n.regs ≤ 2 ^ 36
  pub arrays : n.arrays ≤ 2 ^ 36
  pub elements : n.elements ≤ 2 ^ 36
