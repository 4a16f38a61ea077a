-- Call sites of one key each, in the order in which the code finds them.
use Rattle.std.specs.Prelude.{◌≡◌, ℕ, ◌+◌, ◌≤◌, List, [], ◌∷◌, Option, length, map, if◌then◌else◌}
use Rattle.il_core.specs.Limits.{max_parameters, max_size}
use Rattle.plan_laws.specs.Groups.{Group, Member, fixed_of, joined, may_move}
use Rattle.plan_laws.specs.Summary.{CallSite}
use Rattle.call_graph.specs.Summaries.{Seen, site_of}
use Rattle.call_graph.specs.declared.summary.Site.{Site}
use Rattle.clone_groups.specs.Keys.{fixed_in}
use Rattle.clone_groups.specs.declared.keys.CloneKey.{CloneKey}

-- the sites of one key: their callers with their numbers there, and the sum of their counts
pub record Joint : Type 0 where
  pub members : List (ℕ × ℕ)
  pub count : ℕ

abbrev pub no_sites : Joint
no_sites = record { members = []; count = 0 }

abbrev pub with_site : ℕ → ℕ → ℕ → Joint → Joint
with_site caller number count j = record { members = (caller, number) ∷ j.members; count = count + j.count }

abbrev pub member_by : ℕ × ℕ → Member
member_by x = record { caller = x.0; site = x.1 }

-- the group that an entry of the map stands for
abbrev pub group_in : CloneKey × Joint → Group
group_in e = record { callee = e.0.callee; fixed = fixed_in e.0.fixed.items; members = map member_by e.1.members; count = e.1.count }

abbrev pub groups_in : List (CloneKey × Joint) → List Group
groups_in es = map group_in es

-- a site with its caller and its number
abbrev pub site_at : ℕ → ℕ → Site → CallSite
site_at caller number s = record { caller = caller; number = number; site = site_of s }

-- groups with the sites of a list joined to them, the last one first
abbrev pub all_joined : List Seen → ℕ → List CallSite → List Group → List Group
all_joined ss main [] gs = gs
all_joined ss main (x ∷ xs) gs =
    if may_move ss main x then joined x (fixed_of ss x) (all_joined ss main xs gs) else all_joined ss main xs gs

-- a site with the callee of a key
abbrev pub site_by : CloneKey → ℕ → ℕ → ℕ → List (Option ℕ) → CallSite
site_by key caller number count known =
    record { caller = caller; number = number; site = record { callee = key.callee; count = count; known = known } }

-- A summary's numbers are within the limits: a routine has no more sites than instructions.
pub record IsSmall (s : Seen) : Type 0 where
  pub params : s.params ≤ max_parameters
  pub reads : length s.reads ≡ s.params
  pub sites : length s.sites ≤ max_size
