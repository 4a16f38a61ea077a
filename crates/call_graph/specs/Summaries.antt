-- Summaries as the laws of the plan see them.
use Rattle.std.specs.Prelude.{ℕ, zero, suc, Bool, false, List, [], ◌∷◌, map, nat_eq, nat_lt, if◌then◌else◌}
use Rattle.il_laws.specs.Known.{KnownSite}
use Rattle.const_prop.specs.Sites.{words_at}
use Rattle.plan_laws.specs.Summary as plan
use Rattle.call_graph.specs.declared.summary.Site.{Site}
use Rattle.call_graph.specs.declared.summary.Summary.{Summary}

abbrev pub site_of : Site → KnownSite
site_of s = record { callee = s.callee; count = s.count; known = words_at s.known }

-- all of a summary but its compact length
abbrev pub summary_of : Summary → plan.Summary
summary_of s =
    record {
      pid = s.pid;
      size = s.size;
      charge = s.charge;
      params = s.params;
      reads = s.reads;
      returns = s.returns;
      regs = s.regs;
      arrays = s.arrays;
      elements = s.elements;
      entry = s.entry;
      start_loop = s.start_loop;
      sites = map site_of s.sites;
    }

-- what the plan knows of a routine
abbrev pub Seen : Type 0
Seen = plan.Summary

-- A routine's summary in the place of its former one, or where its PID comes among the others.
abbrev pub put : Seen → List Seen → List Seen
put s [] = s ∷ []
put s (x ∷ xs) = if nat_lt s.pid x.pid then s ∷ x ∷ xs else (if nat_eq s.pid x.pid then s ∷ xs else x ∷ put s xs)

-- all summaries but that of a routine
abbrev pub without : ℕ → List Seen → List Seen
without pid [] = []
without pid (x ∷ xs) = if nat_eq x.pid pid then xs else x ∷ without pid xs

-- whether the summary at a place has a PID
abbrev pub has_at : List Summary → ℕ → ℕ → Bool
has_at [] at pid = false
has_at (s ∷ ss) zero pid = nat_eq s.pid pid
has_at (s ∷ ss) (suc at) pid = has_at ss at pid
