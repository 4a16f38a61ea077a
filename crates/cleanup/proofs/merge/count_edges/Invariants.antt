use Rattle.std.proofs.Common.{◌≡◌, ℕ, ◌+◌, length, get_or, drop}
use Rattle.il_laws.specs.Edges.{all_edges}
use Rattle.cleanup.proofs.merge.count_edges.Given as goal

abbrev pub invariant-loop-block : goal.invariant-loop-block
invariant-loop-block l = record {
  size : length l.counts.items ≡ length l.blocks;
  whole : (t : ℕ) → get_or l.counts.items t 0 + all_edges (drop l.block-index l.blocks) t ≡ all_edges l.blocks t;
}
