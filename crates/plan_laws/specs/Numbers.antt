-- How large routines are with all that is inlined into them, by recursion over the accepted calls.
use Rattle.std.specs.Prelude.{ℕ, zero, suc, ◌+◌, ◌^◌, ◌&&◌, ◌||◌, Bool, true, false, List, [], ◌∷◌, length, Option, Some, None, nat_eq, nat_le, sum_by}
use Rattle.il_laws.specs.Known.{KnownSite}
use Rattle.il_core.specs.Limits.{max_arrays, max_elements, max_registers, max_size}
use Rattle.plan_laws.specs.Summary.{Summary, summary_at}

-- an accepted call: the site of its caller, and its callee
pub record Choice : Type 0 where
  pub caller : ℕ
  pub site : ℕ
  pub callee : ℕ

abbrev pub is_chosen : List Choice → ℕ → ℕ → Bool
is_chosen [] caller k = false
is_chosen (c ∷ cs) caller k = (nat_eq c.caller caller && nat_eq c.site k) || is_chosen cs caller k

-- an accepted site of one routine
pub record InlineSite : Type 0 where
  pub site : ℕ
  pub callee : ℕ

abbrev pub if_chosen : Bool → ℕ → KnownSite → List InlineSite → List InlineSite
if_chosen true k x others = record { site = k; callee = x.callee } ∷ others
if_chosen false k x others = others

-- the accepted ones of a routine's sites from number k on, put before those with lower numbers
abbrev pub falling : List Choice → ℕ → ℕ → List KnownSite → List InlineSite → List InlineSite
falling cs pid k [] lower = lower
falling cs pid k (x ∷ xs) lower = falling cs pid (suc k) xs (if_chosen (is_chosen cs pid k) k x lower)

-- the accepted sites of a routine, from the last one to the first
abbrev pub inline_sites : List Choice → ℕ → List KnownSite → List InlineSite
inline_sites cs pid xs = falling cs pid 0 xs []

-- what the limits speak of
pub record Numbers : Type 0 where
  pub size : ℕ
  pub regs : ℕ
  pub arrays : ℕ
  pub elements : ℕ

abbrev pub own : Summary → Numbers
own s = record { size = s.size; regs = s.regs; arrays = s.arrays; elements = s.elements }

-- An accepted site adds its callee with all that is inlined into that: its size and 2, a `move` for each parameter and
-- for each return with a value; its registers, arrays and elements.
abbrev pub with_body : Numbers → Summary → Numbers → Numbers
with_body n s m =
    record {
      size = n.size + (m.size + 2 + s.params + s.returns);
      regs = n.regs + m.regs;
      arrays = n.arrays + m.arrays;
      elements = n.elements + m.elements;
    }

abbrev pub with_callee : Numbers → Option Summary → (Summary → Numbers) → Numbers
with_callee n None f = n
with_callee n (Some s) f = with_body n s (f s)

abbrev pub with_calls : List Summary → (Summary → Numbers) → Numbers → List InlineSite → Numbers
with_calls ss f n [] = n
with_calls ss f n (x ∷ xs) = with_calls ss f (with_callee n (summary_at ss x.callee) f) xs

-- with callees inlined down to this depth
abbrev pub numbers : List Summary → List Choice → ℕ → Summary → Numbers
numbers ss cs zero s = own s
numbers ss cs (suc n) s = with_calls ss (numbers ss cs n) (own s) (inline_sites cs s.pid s.sites)

-- With all accepted callees: where no call leads back to itself, a chain of calls has at most as many as there are.
abbrev pub inlined_numbers : List Summary → List Choice → Summary → Numbers
inlined_numbers ss cs s = numbers ss cs (suc (length cs)) s

-- the limits of a routine's size, registers, arrays and elements
abbrev pub is_within : Numbers → Bool
is_within n = nat_le n.size max_size && nat_le n.regs max_registers && nat_le n.arrays max_arrays && nat_le n.elements max_elements

abbrev pub cost_after : List Summary → List Choice → ℕ
cost_after ss cs = sum_by (λ s. (inlined_numbers ss cs s).size ^ 2) ss
