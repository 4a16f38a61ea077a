use Rattle.std.proofs.Common.{◌≡◌, ◌++◌, drop, flat_map}
use Rattle.compact_form.specs.Compact.{block_form}
use Rattle.compact_form.proofs.writing.put_blocks.Given as goal

abbrev pub invariant-loop-block : goal.invariant-loop-block
invariant-loop-block l = l.out.items ++ flat_map block_form (drop l.block-index l.blocks) ≡ l.initial.out.items ++ flat_map block_form l.blocks
