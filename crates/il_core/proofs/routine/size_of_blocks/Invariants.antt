use Rattle.std.proofs.Common.{◌≡◌, take}
use Rattle.il_core.specs.Size.{blocks_size}
use Rattle.il_core.proofs.routine.size_of_blocks.Given as goal

abbrev pub invariant-loop-block : goal.invariant-loop-block
invariant-loop-block l = l.size ≡ blocks_size (take l.block-index l.blocks)
