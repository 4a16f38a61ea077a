-- The inline choice at small call graphs, one for each clause of its rule.
use Rattle.std.proofs.Common.{◌≡◌, ℕ, List, [], ◌∷◌, refl, true, false}
use Rattle.il_laws.specs.Known.{KnownSite}
use Rattle.plan_laws.specs.Summary.{Summary}
use Rattle.plan_laws.specs.Numbers.{Choice, cost_after}
use Rattle.plan_laws.specs.Levels.{is_acyclic, waves}
use Rattle.plan_laws.specs.Choosing.{choice}

-- a routine that gives a value and has no parameters, with its size, registers, arrays, elements and sites
abbrev measured : ℕ → ℕ → ℕ → ℕ → ℕ → List KnownSite → Summary
measured pid size regs arrays elements sites =
    record {
      pid = pid;
      size = size;
      charge = 0;
      params = 0;
      reads = [];
      returns = 1;
      regs = regs;
      arrays = arrays;
      elements = elements;
      entry = 1;
      start_loop = false;
      sites = sites;
    }

abbrev sized : ℕ → ℕ → List KnownSite → Summary
sized pid size sites = measured pid size 1 0 0 sites

abbrev calls : ℕ → ℕ → KnownSite
calls callee count = record { callee = callee; count = count; known = [] }

abbrev chosen : ℕ → ℕ → ℕ → Choice
chosen caller site callee = record { caller = caller; site = site; callee = callee }

-- two routines that call each other, and `main`, which calls one of them: the second call would close a cycle
abbrev each_other : List Summary
each_other = sized 0 10 (calls 1 5 ∷ []) ∷ sized 1 10 (calls 0 9 ∷ []) ∷ sized 2 5 (calls 0 1 ∷ []) ∷ []

both_fit : choice each_other 2 953 ≡ chosen 1 0 0 ∷ chosen 2 0 0 ∷ []
both_fit = refl

one_fits : choice each_other 2 952 ≡ chosen 1 0 0 ∷ []
one_fits = refl

-- what doesn't fit is passed over, and a later site may fit
later_fits : choice each_other 2 653 ≡ chosen 2 0 0 ∷ []
later_fits = refl

later_cost : cost_after each_other (chosen 2 0 0 ∷ []) ≡ 524
later_cost = refl

one_wave : waves (chosen 1 0 0 ∷ chosen 2 0 0 ∷ []) ≡ (1 ∷ 2 ∷ []) ∷ []
one_wave = refl

-- by count, then by caller, then by number
abbrev many_ties : List Summary
many_ties =
    sized 0 3 [] ∷ sized 1 5 (calls 0 2 ∷ calls 0 5 ∷ []) ∷ sized 2 5 (calls 0 5 ∷ calls 0 2 ∷ calls 0 2 ∷ [])
    ∷ sized 3 4 (calls 1 1 ∷ []) ∷ []

ranked : choice many_ties 3 1000000 ≡ chosen 1 1 0 ∷ chosen 2 0 0 ∷ chosen 1 0 0 ∷ chosen 2 1 0 ∷ chosen 2 2 0 ∷ chosen 3 0 1 ∷ []
ranked = refl

two_waves : waves (choice many_ties 3 1000000) ≡ (1 ∷ 2 ∷ []) ∷ (3 ∷ []) ∷ []
two_waves = refl

-- calls of `main`, and such as never run
abbrev main_and_none : List Summary
main_and_none = sized 0 3 [] ∷ sized 1 5 (calls 3 9 ∷ calls 0 0 ∷ calls 0 1 ∷ []) ∷ sized 3 4 (calls 1 1 ∷ []) ∷ []

others_chosen : choice main_and_none 3 1000000 ≡ chosen 1 2 0 ∷ chosen 3 0 1 ∷ []
others_chosen = refl

-- a call of itself
itself : choice (sized 0 3 (calls 0 7 ∷ []) ∷ sized 3 4 (calls 0 1 ∷ []) ∷ []) 3 1000000 ≡ chosen 3 0 0 ∷ []
itself = refl

-- a cycle of three
abbrev round : List Summary
round =
    sized 0 3 (calls 1 7 ∷ []) ∷ sized 1 3 (calls 2 6 ∷ []) ∷ sized 2 3 (calls 0 5 ∷ calls 0 1 ∷ []) ∷ sized 3 4 (calls 0 1 ∷ []) ∷ []

round_opened : choice round 3 1000000 ≡ chosen 0 0 1 ∷ chosen 1 0 2 ∷ chosen 3 0 0 ∷ []
round_opened = refl

round_waves : waves (choice round 3 1000000) ≡ (1 ∷ []) ∷ (0 ∷ []) ∷ (3 ∷ []) ∷ []
round_waves = refl

round_closed : is_acyclic (chosen 0 0 1 ∷ chosen 1 0 2 ∷ chosen 2 1 0 ∷ []) ≡ false
round_closed = refl

round_free : is_acyclic (chosen 0 0 1 ∷ chosen 1 0 2 ∷ chosen 3 0 0 ∷ []) ≡ true
round_free = refl

-- the limits of size, registers, arrays and elements: one too many, and then as many as there may be
abbrev large : Summary → ℕ → ℕ → ℕ → List Summary
large callee regs arrays elements = callee ∷ sized 1 3 [] ∷ measured 3 9 regs arrays elements (calls 0 2 ∷ calls 1 1 ∷ []) ∷ []

size_above : choice (large (sized 0 65525 []) 1 0 0) 3 1000000000000 ≡ chosen 3 1 1 ∷ []
size_above = refl

size_most : choice (sized 0 65524 [] ∷ sized 3 9 (calls 0 2 ∷ []) ∷ []) 3 1000000000000 ≡ chosen 3 0 0 ∷ []
size_most = refl

regs_above : choice (large (measured 0 3 32760 0 0 []) 9 0 0) 3 1000000 ≡ chosen 3 1 1 ∷ []
regs_above = refl

regs_most : choice (measured 0 3 32760 0 0 [] ∷ measured 3 9 8 0 0 (calls 0 2 ∷ []) ∷ []) 3 1000000 ≡ chosen 3 0 0 ∷ []
regs_most = refl

arrays_above : choice (large (measured 0 3 1 4090 0 []) 1 7 0) 3 1000000 ≡ chosen 3 1 1 ∷ []
arrays_above = refl

arrays_most : choice (measured 0 3 1 4090 0 [] ∷ measured 3 9 1 6 0 (calls 0 2 ∷ []) ∷ []) 3 1000000 ≡ chosen 3 0 0 ∷ []
arrays_most = refl

elements_above : choice (large (measured 0 3 1 1 1048570 []) 1 1 7) 3 1000000 ≡ chosen 3 1 1 ∷ []
elements_above = refl

elements_most : choice (measured 0 3 1 1 1048570 [] ∷ measured 3 9 1 1 6 (calls 0 2 ∷ []) ∷ []) 3 1000000 ≡ chosen 3 0 0 ∷ []
elements_most = refl
