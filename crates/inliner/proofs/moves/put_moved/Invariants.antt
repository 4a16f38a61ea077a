use Rattle.std.proofs.Common.{◌≡◌, ◌++◌, drop, map}
use Rattle.std.specs.List.{AllByRecursion}
use Rattle.il_laws.specs.Splice.{moved_block}
use Rattle.inliner.specs.Copies.{NamesBlocks, few_blocks}
use Rattle.inliner.proofs.moves.put_moved.Given as goal

abbrev pub invariant-loop-block : goal.invariant-loop-block
invariant-loop-block l = record {
  whole : l.out.items ++ map (moved_block l.b l.n) (drop l.block-index l.block-items) ≡ l.fn.out.items ++ map (moved_block l.b l.n) l.fn.blocks;
  number : AllByRecursion (λ x. NamesBlocks few_blocks x.end) (drop l.block-index l.block-items);
}
