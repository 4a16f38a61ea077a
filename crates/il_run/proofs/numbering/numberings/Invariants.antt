use Rattle.il_run.proofs.Numbers.{AllNumberedTo}
use Rattle.il_run.proofs.numbering.numberings.Given as goal

abbrev pub invariant-loop-routine : goal.invariant-loop-routine
invariant-loop-routine l = AllNumberedTo l.routines l.routine-index l.all.items
