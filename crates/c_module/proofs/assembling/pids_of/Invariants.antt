use Rattle.std.proofs.Common.{◌≡◌, map, take}
use Rattle.il_core.specs.Routine.{RoutineParts}
use Rattle.c_module.proofs.assembling.pids_of.Given as goal

abbrev pub invariant-loop-routine : goal.invariant-loop-routine
invariant-loop-routine l = l.pids.items ≡ map (λ (r : RoutineParts). r.pid) (take l.routine-index l.routines)
