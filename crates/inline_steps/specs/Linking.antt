-- Tests of summaries: whether the choice and the groups may be asked of them.
use Rattle.std.specs.Prelude.{ℕ, zero, suc, ◌&&◌, Bool, true, false, List, [], ◌∷◌, length, nat_eq, nat_le, is_some}
use Rattle.std.specs.List.{AllByRecursion, list_all}
use Rattle.il_core.specs.Limits.{max_arrays, max_elements, max_parameters, max_registers, max_size}
use Rattle.plan_laws.specs.Summary.{Summary, summary_at}
use Rattle.clone_groups.specs.Gathering.{IsSmall}
use Rattle.inline_budget.specs.Linked.{AreLinked}

-- what the choice of the calls that are inlined, and that of the groups that get clones, ask of summaries
pub record AreUsable (ss : List Summary) : Type 0 where
  pub linked : AreLinked ss
  pub small : AllByRecursion IsSmall ss

-- whether the PIDs rise, from this number on
abbrev pub rise_from : ℕ → List Summary → Bool
rise_from n [] = true
rise_from n (s ∷ ss) = nat_le n s.pid && rise_from (suc s.pid) ss

-- whether a summary's numbers are within the limits, with a mark for each parameter
abbrev pub is_small : Summary → Bool
is_small s =
    nat_le s.size max_size && nat_le s.regs max_registers && nat_le s.arrays max_arrays && nat_le s.elements max_elements
    && nat_le (length s.sites) max_size && nat_le s.params max_parameters && nat_eq (length s.reads) s.params

-- whether each site's callee has a summary
abbrev pub calls_known : List Summary → Summary → Bool
calls_known ss s = list_all (λ x. is_some (summary_at ss x.callee)) s.sites

abbrev pub are_usable : List Summary → Bool
are_usable ss = rise_from 0 ss && list_all is_small ss && list_all (calls_known ss) ss

-- a table's mark for a PID
abbrev pub mark_at : List Bool → ℕ → Bool
mark_at [] n = false
mark_at (b ∷ bs) zero = b
mark_at (b ∷ bs) (suc n) = mark_at bs n
