-- The laws of clone groups.
use Rattle.std.specs.Prelude.{◌≡◌, ℕ, suc, ◌&&◌, ◌||◌, Bool, false, List, [], ◌∷◌, Option, Some, None, nat_eq, if◌then◌else◌, ⊤}
use Rattle.std.specs.List.{AllByRecursion}
use Rattle.std.specs.List.Sorted.{IsPermutation, IsSortedBy}
use Rattle.il_core.specs.declared.program.IlProgram.{IlProgram}
use Rattle.il_core.specs.Program.{main_pid}
use Rattle.il_core.specs.Size.{cost}
use Rattle.plan_laws.specs.Summary.{Summary, summaries, call_sites}
use Rattle.plan_laws.specs.Groups.{Group, Member, member_of, grouped, group_before, ranked_groups, Taken, clone_of_site}
use Rattle.plan_laws.specs.Plan.{State, Pass, pass_groups, limit_of, passes, at_first}
use Rattle.plan_laws.specs.PlanLaws.{IsFirst}

abbrev pub has_member : List Member → Member → Bool
has_member [] m = false
has_member (x ∷ xs) m = (nat_eq x.caller m.caller && nat_eq x.site m.site) || has_member xs m

-- the clone of the accepted group that has this member
abbrev pub clone_of_member : List Taken → Member → Option ℕ
clone_of_member [] m = None
clone_of_member (t ∷ ts) m = if has_member t.group.members m then Some t.clone else clone_of_member ts m

-- Each site of a state goes, once the clones of these groups are added, to the clone of the group that has it, and stays
-- where no accepted group has it.
abbrev pub MembersMove : List Taken → State → State → Type 0
MembersMove ts st a =
    AllByRecursion (λ x. clone_of_site (summaries a.program) a.table (main_pid a.program.shapes) x ≡ clone_of_member ts (member_of x))
    (call_sites (summaries st.program))

-- what holds of each pass, with its number and the state before it
abbrev pub EachPass : (ℕ → State → Pass → Type 0) → ℕ → State → List Pass → Type 0
EachPass P k st [] = ⊤
EachPass P k st (x ∷ xs) = P k st x × EachPass P (suc k) x.pruned xs

-- In each pass the members of the accepted groups are exactly the sites that move.
abbrev pub GroupsMove : Type 0
GroupsMove = (p : IlProgram) → IsFirst p → (budget n : ℕ)
    → EachPass (λ k st x. MembersMove (pass_groups budget (limit_of (cost p.routines) budget n k) st) st x.added) 1 (at_first p) (passes p budget n)

-- The ranking is the only one: the groups of all sites, put in order by rank, are the ranked groups.
abbrev pub GroupRankingIsOnly : Type 0
GroupRankingIsOnly = (ss : List Summary) (main : ℕ) (gs : List Group) → IsPermutation (grouped ss main (call_sites ss)) gs
    → IsSortedBy group_before gs → gs ≡ ranked_groups ss main
