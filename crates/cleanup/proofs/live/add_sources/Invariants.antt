use Rattle.std.proofs.Common.{◌≡◌, ℕ, ◌*◌, ◌<◌, length}
use Rattle.std.specs.Prelude.{◌||◌, nat_eq}
use Rattle.std.specs.List.{AllByRecursion, list_any}
use Rattle.il_core.specs.Operands.{reads}
use Rattle.cleanup.specs.Bits.{has}
use Rattle.cleanup.proofs.live.add_sources.Given as goal

abbrev pub invariant-loop-source : goal.invariant-loop-source
invariant-loop-source l = record {
  inside : AllByRecursion (λ x. x < 64 * length l.fn.set) l.source-iterator;
  whole : (y : ℕ) → (list_any (nat_eq y) l.source-iterator || has l.set y) ≡ (reads l.instr y || has l.fn.set y);
}
