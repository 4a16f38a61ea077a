use Rattle.std.proofs.Common.{◌≡◌, ◌++◌, map, take, drop}
use Rattle.std.specs.Prelude.{slice_index}
use Rattle.c_lower.specs.Settled.{settled}
use Rattle.c_lower.proofs.writer.settle_blocks.Given as goal

abbrev pub invariant-loop-block : goal.invariant-loop-block
invariant-loop-block l = l.blocks ≡ map (settled (slice_index l.targets)) (take l.block-index l.fn.blocks) ++ drop l.block-index l.fn.blocks
