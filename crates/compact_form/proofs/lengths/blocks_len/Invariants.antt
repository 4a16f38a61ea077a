use Rattle.std.proofs.Common.{◌≡◌, ◌+◌, ◌*◌, ◌≤◌, length, take, drop, flat_map}
use Rattle.il_core.specs.Size.{blocks_size}
use Rattle.compact_form.specs.Compact.{block_form}
use Rattle.compact_form.proofs.lengths.blocks_len.Given as goal

abbrev pub invariant-loop-block : goal.invariant-loop-block
invariant-loop-block l = record {
  total : l.total + length (flat_map block_form (drop l.block-index l.blocks)) ≡ length (flat_map block_form l.blocks);
  bound : l.total ≤ 200 * blocks_size (take l.block-index l.blocks);
}
