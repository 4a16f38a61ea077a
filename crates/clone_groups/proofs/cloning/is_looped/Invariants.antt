use Rattle.std.proofs.Common.{◌≡◌, drop}
use Rattle.il_laws.specs.Facts.{looped}
use Rattle.clone_groups.proofs.cloning.is_looped.Given as goal

abbrev pub invariant-loop-block : goal.invariant-loop-block
invariant-loop-block l = looped (drop l.block-index l.blocks) 0 ≡ looped l.blocks 0
