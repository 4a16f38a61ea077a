-- Summaries of the routines of one program.
use Rattle.std.specs.Prelude.{◌≡◌, ⊤, ℕ, ◌≤◌, List, [], ◌∷◌, Some, None, length}
use Rattle.std.specs.List.{AllByRecursion}
use Rattle.il_core.specs.Limits.{max_arrays, max_elements, max_registers, max_size}
use Rattle.plan_laws.specs.Summary.{Summary, summary_at}

-- no PID stands twice
abbrev pub AreApart : List Summary → Type 0
AreApart [] = ⊤
AreApart (s ∷ ss) = (summary_at ss s.pid ≡ None) × AreApart ss

pub record HasSummary (ss : List Summary) (pid : ℕ) : Type 0 where
  pub summary : Summary
  pub found : summary_at ss pid ≡ Some summary

-- each site's callee has a summary
abbrev pub CallsKnown : List Summary → Summary → Type 0
CallsKnown ss s = AllByRecursion (λ x. HasSummary ss x.callee) s.sites

-- A summary's numbers are within the limits: a routine has no more sites than instructions.
pub record IsSmall (s : Summary) : Type 0 where
  pub size : s.size ≤ max_size
  pub regs : s.regs ≤ max_registers
  pub arrays : s.arrays ≤ max_arrays
  pub elements : s.elements ≤ max_elements
  pub sites : length s.sites ≤ max_size

-- What the choice asks of summaries: their PIDs are different, each site's callee has one, and their numbers are within
-- the limits.
pub record AreLinked (ss : List Summary) : Type 0 where
  pub apart : AreApart ss
  pub calls : AllByRecursion (CallsKnown ss) ss
  pub small : AllByRecursion IsSmall ss
