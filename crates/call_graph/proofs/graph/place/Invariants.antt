use Rattle.std.proofs.Common.{◌-◌, ◌<◌, ◌≤◌, take, drop, length}
use Rattle.std.specs.List.{AllByRecursion}
use Rattle.call_graph.specs.declared.summary.Summary.{Summary}
use Rattle.call_graph.proofs.graph.place.Given as goal

abbrev pub invariant-loop-low : goal.invariant-loop-low
invariant-loop-low l = record {
  order : l.low ≤ l.high;
  within : l.high ≤ length l.routines;
  before : AllByRecursion (λ (s : Summary). s.pid < l.pid) (take l.low l.routines);
  behind : AllByRecursion (λ (s : Summary). l.pid ≤ s.pid) (drop l.high l.routines);
}

abbrev pub decreases-loop-low : goal.decreases-loop-low
decreases-loop-low l = l.high - l.low
