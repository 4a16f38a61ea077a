use Rattle.std.proofs.Common.{◌<◌, take}
use Rattle.std.specs.List.{AllByRecursion}
use Rattle.call_graph.specs.declared.summary.Summary.{Summary}
use Rattle.clone_groups.proofs.places.past_pids.Given as goal

abbrev pub invariant-loop-routine : goal.invariant-loop-routine
invariant-loop-routine l = AllByRecursion (λ (r : Summary). r.pid < l.past) (take l.routine-index l.routines)
