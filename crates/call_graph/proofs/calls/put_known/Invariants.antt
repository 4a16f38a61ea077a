use Rattle.std.proofs.Common.{◌≡◌, ◌++◌, take, drop}
use Rattle.call_graph.specs.Calls.{with_known}
use Rattle.call_graph.proofs.calls.put_known.Given as goal

abbrev pub invariant-loop-k : goal.invariant-loop-k
invariant-loop-k l = record {
  sites : drop l.k l.sites ≡ drop l.k l.fn.sites;
  known : drop l.k l.known ≡ drop l.k l.fn.known;
  whole : (take l.k l.sites ++ with_known (drop l.k l.fn.known) (drop l.k l.fn.sites)) ≡ with_known l.fn.known l.fn.sites;
}
