use Rattle.std.proofs.Common.{◌≡◌, ℕ, drop}
use Rattle.std.specs.Prelude.{◌||◌}
use Rattle.il_laws.specs.Live.{any_reads}
use Rattle.cleanup.specs.Bits.{has}
use Rattle.cleanup.proofs.live.add_reads.Given as goal

abbrev pub invariant-loop-instr : goal.invariant-loop-instr
invariant-loop-instr l = (y : ℕ) → (any_reads (drop l.instr-index l.instrs) y || has l.set y) ≡ (any_reads l.instrs y || has l.fn.set y)
