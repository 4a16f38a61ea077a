use Rattle.std.proofs.Common.{◌≡◌, ◌<◌, ◌+◌, ◌^◌, drop, map}
use Rattle.std.specs.Prelude.{filter}
use Rattle.il_laws.specs.Reach.{is_in}
use Rattle.call_graph.specs.Summaries.{summary_of}
use Rattle.plan_laws.specs.Summary.{cost_of}
use Rattle.plan_pools.proofs.pruning.cost_left.Given as goal

abbrev pub invariant-loop-routine : goal.invariant-loop-routine
invariant-loop-routine l =
    cost_of (filter (λ s. is_in l.live s.pid) (map summary_of l.routines)) < 2 ^ 64
    → l.cost + cost_of (filter (λ s. is_in l.live s.pid) (map summary_of (drop l.routine-index l.routines)))
    ≡ cost_of (filter (λ s. is_in l.live s.pid) (map summary_of l.routines))
