use Rattle.std.proofs.Common.{◌≡◌, ◌++◌, drop, map}
use Rattle.plan_laws.specs.Summary.{call_sites}
use Rattle.call_graph.specs.Summaries.{summary_of}
use Rattle.inline_budget.specs.Ranking.{bare, placed}
use Rattle.inline_budget.proofs.ranking.all_sites.Given as goal

abbrev pub invariant-loop-routine : goal.invariant-loop-routine
invariant-loop-routine l = map placed l.sites.items ++ map bare (call_sites (map summary_of (drop l.routine-index l.routines)))
    ≡ map bare (call_sites (map summary_of l.routines))
