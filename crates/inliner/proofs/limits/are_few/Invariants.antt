use Rattle.std.proofs.Common.{◌≡◌, drop, nat_le}
use Rattle.il_core.specs.Limits.{max_size}
use Rattle.il_core.specs.Size.{blocks_size}
use Rattle.inliner.proofs.limits.are_few.Given as goal

abbrev pub invariant-loop-block : goal.invariant-loop-block
invariant-loop-block l = nat_le (blocks_size (drop l.block-index l.blocks)) l.left ≡ nat_le (blocks_size l.blocks) max_size
