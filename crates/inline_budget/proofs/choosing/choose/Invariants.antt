use Rattle.std.proofs.Common.{map}
use Rattle.call_graph.specs.Summaries.{summary_of}
use Rattle.inline_budget.specs.Calls.{calls_of}
use Rattle.inline_budget.proofs.Offered.{IsOffering}
use Rattle.inline_budget.proofs.choosing.choose.Given as goal

abbrev pub invariant-loop-site : goal.invariant-loop-site
invariant-loop-site l = IsOffering (map summary_of l.routines) l.main l.limit l.site-items l.bound l.site-index
    (calls_of l.choices.items) l.numbers.items l.callers
    l.attempt.times.items l.attempt.handed.items l.attempt.queue.items l.attempt.room
