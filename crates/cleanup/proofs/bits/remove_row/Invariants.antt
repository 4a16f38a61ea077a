use Rattle.std.proofs.Common.{◌≡◌, ℕ}
use Rattle.std.specs.Prelude.{◌&&◌, not}
use Rattle.il_core.specs.Meaning.{is_among}
use Rattle.cleanup.specs.Bits.{has}
use Rattle.cleanup.proofs.bits.remove_row.Given as goal

abbrev pub invariant-loop-i : goal.invariant-loop-i
invariant-loop-i l = (y : ℕ) → has l.set y ≡ (has l.fn.set y && not (is_among l.first l.i y))
