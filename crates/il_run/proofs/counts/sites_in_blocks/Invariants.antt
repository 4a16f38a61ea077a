use Rattle.std.proofs.Common.{◌≡◌, take}
use Rattle.il_run.specs.Counts.{sites_of_blocks}
use Rattle.il_run.proofs.counts.sites_in_blocks.Given as goal

abbrev pub invariant-loop-block : goal.invariant-loop-block
invariant-loop-block l = l.count ≡ sites_of_blocks (take l.block-index l.blocks)
