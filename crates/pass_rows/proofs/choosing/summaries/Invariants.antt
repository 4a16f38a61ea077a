use Rattle.std.proofs.Common.{◌≡◌, ◌++◌, drop, map}
use Rattle.plan_laws.specs.Summary.{summary}
use Rattle.call_graph.specs.Summaries.{summary_of}
use Rattle.pass_rows.proofs.choosing.summaries.Given as goal

abbrev pub invariant-loop-routine : goal.invariant-loop-routine
invariant-loop-routine l = map summary_of l.summaries.items ++ map summary (drop l.routine-index l.routine-items) ≡ map summary l.routine-items
