use Rattle.std.proofs.Common.{◌≡◌, ℕ, drop, length, map}
use Rattle.std.specs.Prelude.{◌||◌, is_some}
use Rattle.call_graph.specs.Summaries.{summary_of}
use Rattle.plan_laws.specs.Summary.{summary_at}
use Rattle.inline_steps.specs.Linking.{mark_at}
use Rattle.inline_steps.proofs.linking.marks.Given as goal

abbrev pub invariant-loop-routine : goal.invariant-loop-routine
invariant-loop-routine l = record {
  whole : (q : ℕ) → (mark_at l.marks.items q || is_some (summary_at (map summary_of (drop l.routine-index l.routines)) q))
      ≡ is_some (summary_at (map summary_of l.routines) q);
  long : length l.marks.items ≡ l.bound;
}
