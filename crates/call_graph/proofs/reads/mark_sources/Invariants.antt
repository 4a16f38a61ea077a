use Rattle.std.proofs.Common.{◌≡◌, ℕ, ◌<◌, length, get_or}
use Rattle.std.specs.Prelude.{◌||◌, nat_eq, false}
use Rattle.std.specs.List.{list_any}
use Rattle.il_core.specs.Operands.{reads}
use Rattle.call_graph.proofs.reads.mark_sources.Given as goal

abbrev pub invariant-loop-source : goal.invariant-loop-source
invariant-loop-source l = (y : ℕ) → y < length l.fn.marks
    → (list_any (nat_eq y) l.source-iterator || get_or l.marks y false) ≡ (get_or l.fn.marks y false || reads l.instr y)
