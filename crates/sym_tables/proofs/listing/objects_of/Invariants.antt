use Rattle.std.proofs.Common.{◌≡◌, take}
use Rattle.sym_tables.specs.Listing.{objects}
use Rattle.sym_tables.proofs.listing.objects_of.Given as goal

abbrev pub invariant-loop-at : goal.invariant-loop-at
invariant-loop-at l = l.objects.items ≡ objects (take l.at l.symbols.entries)
