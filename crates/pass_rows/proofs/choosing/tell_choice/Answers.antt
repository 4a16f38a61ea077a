use Rattle.std.proofs.Common.{◌∙◌, List, ap, map, subst, sym}
use Rattle.plan_laws.specs.Levels.{is_acyclic}
use Rattle.plan_laws.proofs.Chosen.{choice_acyclic}
use Rattle.call_graph.specs.Summaries.{summary_of}
use Rattle.call_graph.specs.declared.summary.Summary.{Summary}
use Rattle.inline_budget.specs.Calls.{Calls, calls_of}
use Rattle.inline_budget.specs.Linked.{AreLinked}
use Rattle.inline_budget.specs.declared.choice.Choice.{Choice}
use Rattle.inline_budget.proofs.Programs.{linked_summaries}
use Rattle.pass_rows.proofs.choosing.tell_choice.Goals as goal

pub choose-requires : goal.choose-requires
choose-requires c =
    subst AreLinked (sym (ap (λ (ss : List Summary). map summary_of ss) c.as_slice.ensures.value ∙ c.in_ok-summaries.ensures))
    (linked_summaries c.args.program.now c.requires.valid c.requires.within)

pub waves-requires : goal.waves-requires
waves-requires c =
    ap (λ (cs : List Choice). is_acyclic (calls_of cs)) c.as_slice-3.ensures.value ∙ ap (λ (cs : Calls). is_acyclic cs) c.in_ok-choices.ensures
    ∙ choice_acyclic (map summary_of c.as_slice.result.now) c.main_of.result c.args.limit
