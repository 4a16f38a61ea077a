use Rattle.std.proofs.Common.{◌≡◌, ◌∙◌, ℕ, List, ap, subst, sym}
use Rattle.std.specs.Prelude.{IfOk}
use Rattle.il_core.specs.Shapes.{IsRising}
use Rattle.plan_laws.specs.Dead.{reachable}
use Rattle.call_graph.specs.declared.summary.Summary.{Summary}
use Rattle.call_graph.specs.Summaries.{Seen}
use Rattle.call_graph.proofs.Reaching.{marked_answer, reachable_is}
use Rattle.call_graph.proofs.graph.CallGraph.reachable.Goals as goal

pub returns-clause-pids : goal.returns-clause-pids
returns-clause-pids c =
    subst (λ (ps : List ℕ). IfOk c.pids_of_marked.result (λ v. v.items ≡ ps))
    (reachable_is c.self.inside.routines.items c.as_slice.result.now c.as_slice-2.result.now c.args.from c.in_ok-marks.marks.items c.as_slice-3.result.now
    c.as_slice.ensures.value c.as_slice-2.ensures.value c.as_slice-3.ensures.value c.in_ok-marks.ensures
    ∙ ap (λ (ss : List Seen). reachable ss c.args.from) c.self.view_is) c.pids_of_marked.ensures

pub returns-clause-rising : goal.returns-clause-rising
returns-clause-rising c =
    marked_answer (λ v. v.items) c.as_slice-3.result.now c.as_slice-2.result.now c.pids_of_marked.result
    (subst (IsRising (λ (s : Summary). s.pid)) (sym c.as_slice-2.ensures.value) c.self.invariant) c.pids_of_marked.ensures
