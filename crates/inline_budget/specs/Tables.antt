-- Tables by PID that are filled from summaries.
use Rattle.std.specs.Prelude.{ℕ, ◌+◌, List, [], ◌∷◌, slice_set}
use Rattle.plan_laws.specs.Summary.{Summary}
use Rattle.inline_budget.specs.declared.numbers.Numbers.{Numbers}
use Rattle.inline_budget.specs.Attempts.{numbers_at}
use Rattle.inline_budget.specs.Calls.{number_at}

-- a routine's own numbers
abbrev pub own_of : Summary → Numbers
own_of s = record { size = s.size; regs = s.regs; arrays = s.arrays; elements = s.elements }

-- what a call of it adds to its caller's size beside its own: 2, and a `move` for each parameter and for each return with
-- a value
abbrev pub extra_of : Summary → ℕ
extra_of s = 2 + s.params + s.returns

-- a table with what f gives for each routine
abbrev pub written : {V : Type 0} → (Summary → V) → List V → List Summary → List V
written f T [] = T
written f T (s ∷ ss) = written f (slice_set T s.pid (f s)) ss

-- what a call of q brings
abbrev pub brought : List Numbers → List ℕ → ℕ → Numbers
brought T ts q =
    record {
      size = (numbers_at T q).size + number_at ts q;
      regs = (numbers_at T q).regs;
      arrays = (numbers_at T q).arrays;
      elements = (numbers_at T q).elements;
    }
