use Rattle.std.proofs.Common.{◌≡◌, ◌<◌, ◌+◌, ◌^◌, drop, map}
use Rattle.call_graph.specs.Summaries.{summary_of}
use Rattle.plan_laws.specs.Summary.{cost_of}
use Rattle.plan_driver.proofs.limits.cost_in_word.Given as goal

abbrev pub invariant-loop-routine : goal.invariant-loop-routine
invariant-loop-routine l =
    cost_of (map summary_of l.routines) < 2 ^ 64
    → l.cost + cost_of (map summary_of (drop l.routine-index l.routines)) ≡ cost_of (map summary_of l.routines)
