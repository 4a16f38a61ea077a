use Rattle.std.proofs.Common.{◌≡◌, take}
use Rattle.sym_tables.specs.Listing.{shapes}
use Rattle.sym_tables.proofs.listing.shape_rows.Given as goal

abbrev pub invariant-loop-at : goal.invariant-loop-at
invariant-loop-at l = l.rows.items ≡ shapes (take l.at l.symbols.entries)
