use Rattle.std.proofs.Common.{◌≡◌, ℕ, drop, length}
use Rattle.std.specs.Prelude.{◌||◌}
use Rattle.il_laws.specs.Live.{read_in}
use Rattle.cleanup.specs.Bits.{has}
use Rattle.cleanup.proofs.live.read_anywhere.Given as goal

abbrev pub invariant-loop-block : goal.invariant-loop-block
invariant-loop-block l = record {
  size : length l.set.items ≡ l.width;
  whole : (y : ℕ) → (read_in (drop l.block-index l.blocks) y || has l.set.items y) ≡ read_in l.blocks y;
}
