-- Groups of sites by rank.
use Rattle.std.specs.Prelude.{◌≡◌, ℕ, List, Option}
use Rattle.std.specs.Cmp.Lexicographic.{slice_cmp}
use Rattle.std.specs.List.Sorted.{IsPermutation, IsSortedBy}
use Rattle.std.specs.Ordering.{nat_cmp, ordering_then}
use Rattle.std.specs.declared.cmp.Ordering.{Ordering}
use Rattle.il_laws.specs.Table.{Row}
use Rattle.plan_laws.specs.Groups.{Group, clone_in, group_before}
use Rattle.clone_groups.specs.Gathering.{Joint, group_in}
use Rattle.clone_groups.specs.Keys.{fixed_in}
use Rattle.clone_groups.specs.declared.keys.CloneKey.{CloneKey}
use Rattle.clone_groups.specs.declared.ranking.Candidate.{Candidate}

-- the clone that a table has for an entry's key
abbrev pub clone_for : List Row → CloneKey × Joint → Option ℕ
clone_for rows e = clone_in rows e.0.callee (fixed_in e.0.fixed.items)

abbrev pub candidate_of : List Row → CloneKey × Joint → Candidate
candidate_of rows e = record { key = e.0; sites = e.1; old = clone_for rows e }

abbrev pub group_of : Candidate → Group
group_of c = group_in (c.key, c.sites)

-- a candidate's old clone is what the table has
abbrev pub HasClone : List Row → Candidate → Type 0
HasClone rows c = c.old ≡ clone_for rows (c.key, c.sites)

-- groups put in order by rank
pub record AreRanked (gs ranked : List Group) : Type 0 where
  pub all : IsPermutation gs ranked
  pub order : IsSortedBy group_before ranked

-- the order of numbers, and of lists of two numbers each
abbrev pub pair_order : ℕ × ℕ → ℕ × ℕ → Ordering
pair_order x y = ordering_then (nat_cmp x.0 y.0) (nat_cmp x.1 y.1)

abbrev pub key_order : CloneKey → CloneKey → Ordering
key_order a b = ordering_then (nat_cmp a.callee b.callee) (slice_cmp pair_order a.fixed.items b.fixed.items)

-- by falling count, and then by key
abbrev pub rank_order : Candidate → Candidate → Ordering
rank_order a b = ordering_then (nat_cmp b.sites.count a.sites.count) (key_order a.key b.key)
