use Rattle.std.proofs.Common.{◌≡◌, ℕ, ◌<◌, get_or, length}
use Rattle.std.specs.Prelude.{None}
use Rattle.const_prop.proofs.flow.picked.Given as goal

abbrev pub invariant-loop-x : goal.invariant-loop-x
invariant-loop-x l = record {
  size : length l.facts.items ≡ l.x-index;
  at : (k : ℕ) → k < l.x-index → get_or l.facts.items k None ≡ get_or l.table (get_or l.carried k 0) None;
}
