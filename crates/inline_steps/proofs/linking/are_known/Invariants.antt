use Rattle.std.proofs.Common.{◌≡◌, drop, map}
use Rattle.std.specs.List.{list_all}
use Rattle.call_graph.specs.Summaries.{summary_of}
use Rattle.plan_laws.specs.Summary.{Summary}
use Rattle.inline_steps.specs.Linking.{mark_at}
use Rattle.inline_steps.proofs.linking.are_known.Given as goal

abbrev pub invariant-loop-routine : goal.invariant-loop-routine
invariant-loop-routine l =
    list_all (λ (s : Summary). list_all (λ x. mark_at l.marks x.callee) s.sites) (map summary_of (drop l.routine-index l.routines))
    ≡ list_all (λ (s : Summary). list_all (λ x. mark_at l.marks x.callee) s.sites) (map summary_of l.routines)
