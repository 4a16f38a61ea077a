use Rattle.std.proofs.Common.{List, [], ◌∷◌, map, arith}
use Rattle.std.specs.List.{AllByRecursion}
use Rattle.list_laws.proofs.Elements.{all_of_front}
use Rattle.call_graph.specs.Summaries.{summary_of}
use Rattle.call_graph.specs.declared.summary.Summary.{Summary}
use Rattle.clone_groups.specs.Gathering.{IsSmall}
use Rattle.pass_rows.proofs.groups.are_small.Goals as goal

all_seen : (xs : List Summary) → AllByRecursion (λ s. IsSmall (summary_of s)) xs → AllByRecursion IsSmall (map summary_of xs)
all_seen [] h = tt
all_seen (x ∷ xs) (h, hs) = (h, all_seen xs hs)

pub returns : goal.returns
returns c = λ e. all_seen c.args.summaries.now
    (all_of_front (λ s. IsSmall (summary_of s)) c.loop-summary.summary-index c.args.summaries.now (omega (arith, c.loop-summary-test.false))
    c.loop-summary.invariant)
