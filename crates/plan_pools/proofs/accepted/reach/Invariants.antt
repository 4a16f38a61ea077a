use Rattle.std.proofs.Common.{◌≡◌, ℕ, false, length}
use Rattle.std.specs.Prelude.{slice_index_or}
use Rattle.plan_pools.proofs.accepted.reach.Given as goal

abbrev pub invariant-loop : goal.invariant-loop
invariant-loop l = record {
  long : length l.row.items ≡ l.counter;
  same : (k : ℕ) → slice_index_or l.row.items k false ≡ slice_index_or l.fn.row.items k false;
}
