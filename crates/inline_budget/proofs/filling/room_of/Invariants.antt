use Rattle.std.proofs.Common.{◌≡◌, ◌+◌, drop, map}
use Rattle.plan_laws.specs.Summary.{cost_of}
use Rattle.call_graph.specs.Summaries.{summary_of}
use Rattle.inline_budget.proofs.filling.room_of.Given as goal

abbrev pub invariant-loop-routine : goal.invariant-loop-routine
invariant-loop-routine l = l.room + cost_of (map summary_of l.routines) ≡ l.limit + cost_of (map summary_of (drop l.routine-index l.routines))
