-- What is counted of names, in the order in which they were first named.
use Rattle.std.specs.Prelude.{ℕ, Bool, List, [], Option, Some, None, nat_eq}
use Rattle.std.specs.Cmp.Lexicographic.{pointwise}
use Rattle.std.specs.Map.{lookup}
use Rattle.indexmap.specs.IndexMap.{insert_entry}

-- what is counted of one name: its entry, and its call sites by their numbers
pub record Tallied : Type 0 where
  pub entry : ℕ
  pub sites : List (ℕ × ℕ)

abbrev pub Names : Type 0
Names = List (List ℕ × Tallied)

-- names are the same where their bytes are
abbrev pub same_name : List ℕ → List ℕ → Bool
same_name a b = pointwise nat_eq a b

-- nothing is counted of a name that isn't there
abbrev pub nothing : Tallied
nothing = record { entry = 0; sites = [] }

abbrev pub or_nothing : Option Tallied → Tallied
or_nothing None = nothing
or_nothing (Some t) = t

abbrev pub tally_of : Names → List ℕ → Tallied
tally_of ns n = or_nothing (lookup (same_name n) ns)

abbrev pub or_zero : Option ℕ → ℕ
or_zero None = 0
or_zero (Some c) = c

-- the count of a call site, 0 where none is set
abbrev pub site_of : Tallied → ℕ → ℕ
site_of t k = or_zero (lookup (nat_eq k) t.sites)

-- a count is set: a name that is there keeps its place, and a new one goes last
abbrev pub with_entry : List ℕ → ℕ → Names → Names
with_entry n c ns = insert_entry same_name ns n (record (tally_of ns n) { entry = c })

abbrev pub with_site : List ℕ → ℕ → ℕ → Names → Names
with_site n k c ns = insert_entry same_name ns n (record (tally_of ns n) { sites = insert_entry nat_eq (tally_of ns n).sites k c })
