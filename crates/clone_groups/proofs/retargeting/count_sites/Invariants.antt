use Rattle.std.proofs.Common.{◌≡◌, ◌+◌, drop}
use Rattle.clone_groups.specs.Moves.{sites_of_blocks}
use Rattle.clone_groups.proofs.retargeting.count_sites.Given as goal

abbrev pub invariant-loop-block : goal.invariant-loop-block
invariant-loop-block l = l.sites + sites_of_blocks (drop l.block-index l.blocks) ≡ sites_of_blocks l.blocks
