use Rattle.std.proofs.Common.{◌≡◌, ◌++◌, drop}
use Rattle.call_graph.specs.Calls.{calls_in}
use Rattle.call_graph.proofs.calls.sites_of.Given as goal

abbrev pub invariant-loop-block : goal.invariant-loop-block
invariant-loop-block l = (l.sites.items ++ calls_in (drop l.block-index l.blocks)) ≡ calls_in l.blocks
