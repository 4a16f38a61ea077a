use Rattle.std.specs.Vec.{vec_len}
use Rattle.c_module.proofs.Assembled.{Filling}
use Rattle.c_module.proofs.assembling.by_pid.Given as goal

abbrev pub invariant-loop-routine : goal.invariant-loop-routine
invariant-loop-routine l = Filling l.names l.fn.routines.items l.left.items l.table.items

abbrev pub decreases-loop-routine : goal.decreases-loop-routine
decreases-loop-routine l = vec_len l.left
