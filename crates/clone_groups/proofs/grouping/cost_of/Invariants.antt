use Rattle.std.proofs.Common.{◌≡◌, ◌+◌, ◌*◌, ◌^◌, ◌≤◌, drop, map}
use Rattle.plan_laws.specs.Summary.{cost_of}
use Rattle.call_graph.specs.Summaries.{summary_of}
use Rattle.clone_groups.proofs.grouping.cost_of.Given as goal

abbrev pub invariant-loop-routine : goal.invariant-loop-routine
invariant-loop-routine l = record {
  value : l.cost + cost_of (map summary_of (drop l.routine-index l.routines)) ≡ cost_of (map summary_of l.routines);
  small : l.cost ≤ l.routine-index * 2 ^ 64;
}
