use Rattle.std.proofs.Common.{◌≡◌, ◌-◌, length, get_or, true}
use Rattle.call_graph.specs.Reach.{place_of}
use Rattle.call_graph.proofs.Reaching.{State}
use Rattle.call_graph.proofs.reach.spread.Given as goal

abbrev pub invariant-loop-next : goal.invariant-loop-next
invariant-loop-next l = record {
  state : State l.routines l.fn.from l.next l.marks l.found.items;
  first : get_or l.marks (place_of l.routines l.fn.from) true ≡ true;
}

abbrev pub decreases-loop-next : goal.decreases-loop-next
decreases-loop-next l = length l.routines - l.next
