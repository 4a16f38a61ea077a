use Rattle.std.proofs.Common.{◌≡◌, drop, length, map, replicate}
use Rattle.call_graph.specs.Summaries.{summary_of}
use Rattle.inline_budget.specs.Attempts.{no_numbers}
use Rattle.inline_budget.specs.Tables.{own_of, written}
use Rattle.inline_budget.proofs.filling.own_numbers.Given as goal

abbrev pub invariant-loop-routine : goal.invariant-loop-routine
invariant-loop-routine l = record {
  whole : written own_of l.numbers.items (map summary_of (drop l.routine-index l.routines))
      ≡ written own_of (replicate l.bound no_numbers) (map summary_of l.routines);
  long : length l.numbers.items ≡ l.bound;
}
