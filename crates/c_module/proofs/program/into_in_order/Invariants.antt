use Rattle.std.proofs.Common.{◌≡◌, take}
use Rattle.outside.specs.Faults.{NoneFalls}
use Rattle.outside.specs.Told.{SameFiles}
use Rattle.profile.specs.Counts.{counts_of}
use Rattle.c_module.proofs.Lowered.{Lowered}
use Rattle.c_module.proofs.program.into_in_order.Given as goal

abbrev pub invariant-loop-file : goal.invariant-loop-file
invariant-loop-file g l = record {
  lowered : Lowered (counts_of l.p) (g.S.Shelf.tells l.fn.shelf) (take l.file-index l.files) (g.R.RoutineTaker.taken l.taker) l.syms;
  same : SameFiles (g.S.Shelf.tells l.fn.shelf) (g.S.Shelf.tells l.shelf);
  counts : NoneFalls (g.S.Shelf.faults l.fn.shelf) (g.S.Shelf.faults l.shelf);
  number : l.number ≡ l.file-index;
  kept : g.R.RoutineTaker.keeps l.fn.taker l.taker;
  ready : g.R.RoutineTaker.ready l.taker;
}
