use Rattle.std.proofs.Common.{◌≡◌, ℕ, ◌≤◌, drop, length}
use Rattle.inline_budget.specs.Calls.{calls_of, number_at}
use Rattle.inline_budget.specs.Levelling.{counted, filed}
use Rattle.inline_budget.proofs.levels.put_calls.Given as goal

abbrev pub invariant-loop-call : goal.invariant-loop-call
invariant-loop-call l = record {
  callers : filed l.callers (calls_of (drop l.call-index l.calls)) ≡ filed l.fn.callers (calls_of l.calls);
  left : counted l.left.items (calls_of (drop l.call-index l.calls)) ≡ counted l.fn.left.items (calls_of l.calls);
  few : (z : ℕ) → number_at l.left.items z ≤ l.call-index;
  lists : length l.callers ≡ length l.fn.callers;
  size : length l.left.items ≡ length l.fn.left.items;
}
