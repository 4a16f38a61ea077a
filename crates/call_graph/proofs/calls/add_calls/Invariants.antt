use Rattle.std.proofs.Common.{◌≡◌, ◌++◌, drop}
use Rattle.std.specs.Prelude.{flat_map}
use Rattle.call_graph.specs.Calls.{call_of}
use Rattle.call_graph.proofs.calls.add_calls.Given as goal

abbrev pub invariant-loop-instr : goal.invariant-loop-instr
invariant-loop-instr l = (l.sites.items ++ flat_map call_of (drop l.instr-index l.instrs)) ≡ (l.fn.sites.items ++ flat_map call_of l.instrs)
