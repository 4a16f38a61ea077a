use Rattle.std.proofs.Common.{◌≡◌, ◌++◌}
use Rattle.profile.proofs.tally.Tally.sites_by_number.Given as goal

abbrev pub invariant-loop-k : goal.invariant-loop-k
invariant-loop-k l = l.sites.items ++ l.k-iterator ≡ l.self.sites
