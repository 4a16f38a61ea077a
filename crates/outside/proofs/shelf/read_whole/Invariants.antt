use Rattle.std.proofs.Common.{◌≤◌, length, ◌-◌}
use Rattle.outside.specs.Faults.{NoneFalls}
use Rattle.outside.specs.Told.{SameFiles}
use Rattle.outside.proofs.Fronts.{IsFront}
use Rattle.outside.proofs.shelf.read_whole.Given as goal

abbrev pub invariant-rest : goal.invariant-rest
invariant-rest g l = record {
  within : length l.v.items ≤ l.most;
  front : IsFront (g.S.Shelf.tells l.fn.s l.name) l.v.items;
  same : SameFiles (g.S.Shelf.tells l.fn.s) (g.S.Shelf.tells l.s);
  counts : NoneFalls (g.S.Shelf.faults l.fn.s) (g.S.Shelf.faults l.s);
}

abbrev pub decreases-rest : goal.decreases-rest
decreases-rest g l = l.most - length l.v.items
