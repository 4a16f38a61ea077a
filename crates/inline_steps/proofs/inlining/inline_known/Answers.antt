use Rattle.std.proofs.Common.{ap, map, ◌∙◌}
use Rattle.call_graph.specs.Summaries.{summary_of}
use Rattle.inline_budget.specs.Calls.{calls_of}
use Rattle.plan_laws.specs.Choosing.{choice}
use Rattle.plan_laws.specs.Levels.{is_acyclic}
use Rattle.plan_laws.proofs.Chosen.{choice_acyclic}
use Rattle.inline_steps.proofs.inlining.inline_known.Goals as goal

pub inline_choices-requires-clause-acyclic : goal.inline_choices-requires-clause-acyclic
inline_choices-requires-clause-acyclic g c =
    ap is_acyclic (ap calls_of c.as_slice.ensures.value ∙ c.in-Ok.ensures)
    ∙ choice_acyclic (map summary_of c.summaries.result.now) c.args.main c.args.limit

pub returns-in-Ok-clause-made : goal.returns-in-Ok-clause-made
returns-in-Ok-clause-made g c = λ known.
    c.inline_choices.ensures.made c.args.main c.args.limit
    (λ p h. ap calls_of c.as_slice.ensures.value ∙ c.in-Ok.ensures ∙ ap (λ ss. choice ss c.args.main c.args.limit) (c.summaries.ensures ∙ known p h))

pub returns-in-Ok-clause-err : goal.returns-in-Ok-clause-err
returns-in-Ok-clause-err g c = λ known.
    c.inline_choices.ensures.err c.args.main c.args.limit
    (λ p h. ap calls_of c.as_slice.ensures.value ∙ c.in-Ok.ensures ∙ ap (λ ss. choice ss c.args.main c.args.limit) (c.summaries.ensures ∙ known p h))
