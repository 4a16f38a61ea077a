use Rattle.std.proofs.Common.{◌≡◌, take}
use Rattle.outside.specs.Faults.{NoneFalls}
use Rattle.outside.specs.Told.{SameFiles}
use Rattle.c_module.proofs.Going.{Passed}
use Rattle.c_module.proofs.checking.check_in_order.Given as goal

abbrev pub invariant-loop-file : goal.invariant-loop-file
invariant-loop-file g l =
    Passed (g.S.Shelf.tells l.fn.shelf) (take l.file-index l.files) l.syms
    × SameFiles (g.S.Shelf.tells l.fn.shelf) (g.S.Shelf.tells l.shelf)
    × NoneFalls (g.S.Shelf.faults l.fn.shelf) (g.S.Shelf.faults l.shelf)
    × (l.number ≡ l.file-index)
