use Rattle.std.proofs.Common.{◌≢◌, ℕ, ◌<◌, length, get_or}
use Rattle.const_prop.specs.Carried.{StandsIn}
use Rattle.const_prop.specs.Taking.{IsTaking, Took}
use Rattle.const_prop.proofs.carried.Taking.take_row.Given as goal

abbrev pub invariant-loop-register : goal.invariant-loop-register
invariant-loop-register l = record {
  taking : IsTaking (length l.fn.self.takers.items) l.self;
  took : Took l.fn.self l.self;
  done : (i : ℕ) → i < l.register-index → get_or l.row i 0 < length l.fn.self.takers.items
      → get_or l.fn.self.writers.items (get_or l.row i 0) 0 ≢ l.fn.self.stamp
      → StandsIn l.self.row.items (get_or l.row i 0);
}
