use Rattle.il_run.proofs.Tabling.{LayoutsTo}
use Rattle.il_run.proofs.tables.layouts.Given as goal

abbrev pub invariant-loop-routine : goal.invariant-loop-routine
invariant-loop-routine l = LayoutsTo l.routines l.routine-index l.arrays.items
