use Rattle.std.proofs.Common.{take}
use Rattle.std.specs.List.{AllByRecursion}
use Rattle.call_graph.specs.Summaries.{summary_of}
use Rattle.clone_groups.specs.Gathering.{IsSmall}
use Rattle.pass_rows.proofs.groups.are_small.Given as goal

abbrev pub invariant-loop-summary : goal.invariant-loop-summary
invariant-loop-summary l = AllByRecursion (λ s. IsSmall (summary_of s)) (take l.summary-index l.summaries)
