use Rattle.std.proofs.Common.{◌≡◌, ◌++◌, drop, map}
use Rattle.il_laws.specs.Splice.{copied}
use Rattle.inliner.specs.Copies.{names_of}
use Rattle.inliner.proofs.copies.put_copies.Given as goal

abbrev pub invariant-loop-block : goal.invariant-loop-block
invariant-loop-block l = l.out.items ++ map (copied (names_of l.by) l.at.dest l.at.first l.at.rest) (drop l.block-index l.blocks)
    ≡ l.fn.out.items ++ map (copied (names_of l.by) l.at.dest l.at.first l.at.rest) l.blocks
