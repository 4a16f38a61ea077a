use Rattle.std.proofs.Common.{◌≡◌, ◌++◌, drop, map}
use Rattle.plan_laws.specs.Summary.{numbered}
use Rattle.call_graph.specs.Summaries.{site_of}
use Rattle.inline_budget.specs.Ranking.{bare, placed}
use Rattle.inline_budget.proofs.ranking.add_sites.Given as goal

abbrev pub invariant-loop-number : goal.invariant-loop-number
invariant-loop-number l = map placed l.sites.items ++ map bare (numbered l.routine.pid l.number (map site_of (drop l.number l.routine.sites)))
    ≡ map placed l.fn.sites.items ++ map bare (numbered l.routine.pid 0 (map site_of l.routine.sites))
