use Rattle.std.proofs.Common.{◌≡◌, ◌+◌, take}
use Rattle.il_core.specs.Limits.{max_size}
use Rattle.il_core.specs.Size.{blocks_size}
use Rattle.compact_form.proofs.body.has_size.Given as goal

abbrev pub invariant-loop-block : goal.invariant-loop-block
invariant-loop-block l = l.left + blocks_size (take l.block-index l.blocks) ≡ max_size
