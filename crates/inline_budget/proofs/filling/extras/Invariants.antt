use Rattle.std.proofs.Common.{◌≡◌, ◌≤◌, ℕ, drop, length, map, replicate}
use Rattle.std.specs.Prelude.{◌^◌}
use Rattle.call_graph.specs.Summaries.{summary_of}
use Rattle.inline_budget.specs.Calls.{number_at}
use Rattle.inline_budget.specs.Tables.{extra_of, written}
use Rattle.inline_budget.proofs.filling.extras.Given as goal

abbrev pub invariant-loop-routine : goal.invariant-loop-routine
invariant-loop-routine l = record {
  whole : written extra_of l.extras.items (map summary_of (drop l.routine-index l.routines))
      ≡ written extra_of (replicate l.bound 0) (map summary_of l.routines);
  long : length l.extras.items ≡ l.bound;
  few : (x : ℕ) → number_at l.extras.items x ≤ 2 ^ 34;
}
