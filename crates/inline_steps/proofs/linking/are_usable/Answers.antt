use Rattle.std.proofs.Common.{◌<◌, Bool, List, ap, map, subst, sym, ◌∙◌}
use Rattle.std.specs.List.{AllByRecursion}
use Rattle.call_graph.specs.Summaries.{summary_of}
use Rattle.call_graph.specs.declared.summary.Summary.{Summary}
use Rattle.inline_budget.proofs.Filled.{pids_below}
use Rattle.inline_steps.specs.Linking.{mark_at}
use Rattle.inline_steps.proofs.Usable.{calls_decide}
use Rattle.inline_steps.proofs.linking.are_usable.Goals as goal

pub marks-requires : goal.marks-requires
marks-requires c =
    subst (λ n. AllByRecursion (λ (r : Summary). r.pid < n) c.args.routines.now) (sym c.past_pids.ensures)
    (pids_below (λ (r : Summary). r.pid) c.args.routines.now)

pub returns : goal.returns
returns c =
    c.are_known.ensures
    ∙ calls_decide (map summary_of c.args.routines.now) (sym c.rise.ensures ∙ c.if-not-rise.false) (sym c.are_small.ensures ∙ c.if-not-are_small.false)
    c.as_slice.result.now (λ q. ap (λ (bs : List Bool). mark_at bs q) c.as_slice.ensures.value ∙ c.in_ok-marks.ensures q)
