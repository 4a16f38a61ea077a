use Rattle.std.proofs.Common.{◌≡◌, ◌≢◌, ℕ, ◌<◌, length, get_or, true, ◌⊎◌}
use Rattle.std.specs.Prelude.{nat_eq}
use Rattle.std.specs.List.{list_any}
use Rattle.il_core.specs.Operands.{reads}
use Rattle.const_prop.specs.Carried.{StandsIn}
use Rattle.const_prop.specs.Taking.{IsTaking, Took}
use Rattle.const_prop.proofs.carried.Taking.take_all.Given as goal

abbrev pub invariant-loop-source : goal.invariant-loop-source
invariant-loop-source l = record {
  taking : IsTaking (length l.fn.self.takers.items) l.self;
  took : Took l.fn.self l.self;
  rest : (x : ℕ) → x < length l.fn.self.takers.items → get_or l.fn.self.writers.items x 0 ≢ l.fn.self.stamp → reads l.instr x ≡ true
      → (StandsIn l.self.row.items x) ⊎ (list_any (nat_eq x) l.source-iterator ≡ true);
}
