-- What a profile counts.
use Rattle.std.specs.Prelude.{ℕ, List, Option, Some, None}
use Rattle.profile.specs.Names.{Names, tally_of, site_of}

-- how often the routine of a program name is entered, and how often its call site of a number is passed
pub record Counts : Type 0 where
  pub entry : List ℕ → ℕ
  pub site : List ℕ → ℕ → ℕ

-- the flat profile: every count is 1
abbrev pub flat_counts : Counts
flat_counts = record { entry = λ name. 1; site = λ name k. 1 }

-- the counts that are set, and 0 for all others
abbrev pub set_counts : Names → Counts
set_counts ns = record { entry = λ name. (tally_of ns name).entry; site = λ name k. site_of (tally_of ns name) k }

-- A profile is flat, or it has names with their counts.
abbrev pub Profiled : Type 0
Profiled = Option Names

-- the counts of a profile
abbrev pub counts_of : Profiled → Counts
counts_of None = flat_counts
counts_of (Some ns) = set_counts ns
