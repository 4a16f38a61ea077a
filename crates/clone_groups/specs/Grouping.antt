-- Groups that get a clone.
use Rattle.std.specs.Prelude.{ℕ, List, [], ◌∷◌, ◌++◌, Option, Some, None, if◌then◌else◌, map}
use Rattle.plan_laws.specs.Groups.{Member, Taken, Spent, Decided, decided}
use Rattle.plan_laws.specs.Summary.{summary_at}
use Rattle.call_graph.specs.Summaries.{Seen}
use Rattle.clone_groups.specs.Keys.{fixed_in, pairs_of}
use Rattle.clone_groups.specs.Ranking.{group_of}
use Rattle.clone_groups.specs.declared.groups.Group.{Group}
use Rattle.clone_groups.specs.declared.ranking.Candidate.{Candidate}

abbrev pub pair_by : Member → ℕ × ℕ
pair_by m = (m.caller, m.site)

-- An accepted group as the code hands it out.
abbrev pub accepted : Taken → Group
accepted t =
    record {
      callee = t.group.callee;
      fixed = pairs_of t.group.fixed;
      members = map pair_by t.group.members;
      clone = t.clone;
      old = if t.is_new then None else Some t.clone;
    }

-- each candidate's decision, by those accepted before
abbrev pub taken_by : List Seen → ℕ → Spent → List Candidate → List Taken
taken_by ss limit b [] = []
taken_by ss limit b (c ∷ cs) =
    let d = decided limit (group_of c) b c.old (summary_at ss c.key.callee) in
    d.taken ++ taken_by ss limit d.spent cs

-- the clone of a decision, if there is one, and what is spent then
abbrev pub clone_of_first : List Taken → Option ℕ
clone_of_first [] = None
clone_of_first (t ∷ ts) = Some t.clone

abbrev pub chosen_clone : Decided → Option ℕ
chosen_clone d = clone_of_first d.taken

abbrev pub spent_on : Decided → Spent
spent_on d = d.spent

abbrev pub group_made : Candidate → ℕ → Group
group_made c clone =
    record { callee = c.key.callee; fixed = pairs_of (fixed_in c.key.fixed.items); members = c.sites.members; clone = clone; old = c.old }
