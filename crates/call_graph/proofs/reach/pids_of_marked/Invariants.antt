use Rattle.std.proofs.Common.{◌≡◌, ◌++◌, drop}
use Rattle.call_graph.specs.Reach.{marked_pids}
use Rattle.call_graph.proofs.reach.pids_of_marked.Given as goal

abbrev pub invariant-loop-i : goal.invariant-loop-i
invariant-loop-i l = (l.pids.items ++ marked_pids (drop l.i l.marks) (drop l.i l.routines)) ≡ marked_pids l.marks l.routines
