use Rattle.std.proofs.Common.{◌≡◌, ◌++◌, drop}
use Rattle.call_graph.specs.Reach.{other_pids}
use Rattle.call_graph.proofs.reach.pids_of_others.Given as goal

abbrev pub invariant-loop-i : goal.invariant-loop-i
invariant-loop-i l = (l.pids.items ++ other_pids (drop l.i l.marks) (drop l.i l.routines)) ≡ other_pids l.marks l.routines
