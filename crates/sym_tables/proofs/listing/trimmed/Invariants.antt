use Rattle.std.proofs.Common.{◌≡◌, ◌≤◌, length, take}
use Rattle.sym_tables.specs.Listing.{trimmed}
use Rattle.sym_tables.proofs.listing.trimmed.Given as goal

abbrev pub invariant-loop-kept : goal.invariant-loop-kept
invariant-loop-kept l = (l.kept ≤ length l.words) × (trimmed (take l.kept l.words) ≡ trimmed l.words)

abbrev pub decreases-loop-kept : goal.decreases-loop-kept
decreases-loop-kept l = l.kept
