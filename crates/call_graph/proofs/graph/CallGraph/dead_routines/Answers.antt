use Rattle.std.proofs.Common.{◌≡◌, ◌∙◌, ℕ, List, ap, subst}
use Rattle.std.specs.Prelude.{IfOk}
use Rattle.plan_laws.specs.Dead.{dead_routines}
use Rattle.call_graph.specs.Summaries.{Seen}
use Rattle.call_graph.proofs.Reaching.{dead_is}
use Rattle.call_graph.proofs.graph.CallGraph.dead_routines.Goals as goal

pub returns : goal.returns
returns c =
    subst (λ (ps : List ℕ). IfOk c.pids_of_others.result (λ v. v.items ≡ ps))
    (dead_is c.self.inside.routines.items c.as_slice.result.now c.as_slice-2.result.now c.args.main c.in_ok-marks.marks.items c.as_slice-3.result.now
    c.as_slice.ensures.value c.as_slice-2.ensures.value c.as_slice-3.ensures.value c.in_ok-marks.ensures
    ∙ ap (λ (ss : List Seen). dead_routines ss c.args.main) c.self.view_is) c.pids_of_others.ensures
