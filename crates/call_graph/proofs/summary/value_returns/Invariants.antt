use Rattle.std.proofs.Common.{◌≡◌, ◌+◌, ◌≤◌, drop}
use Rattle.il_laws.specs.Splice.{value_returns}
use Rattle.call_graph.proofs.summary.value_returns.Given as goal

abbrev pub invariant-loop-block : goal.invariant-loop-block
invariant-loop-block l = record {
  whole : l.count + value_returns (drop l.block-index l.blocks) ≡ value_returns l.blocks;
  few : l.count ≤ l.block-index;
}
