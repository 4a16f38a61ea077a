use Rattle.std.proofs.Common.{◌++◌, ◌∷◌, [], ◌∙◌, Bor, List, ap, sym}
use Rattle.std.specs.Option.{option_map}
use Rattle.call_graph.specs.Summaries.{summary_of}
use Rattle.call_graph.specs.declared.summary.Summary.{Summary}
use Rattle.clone_groups.specs.declared.groups.Group.{Group}
use Rattle.clone_groups.proofs.Accepting.{none_taken, one_taken}
use Rattle.clone_groups.proofs.grouping.accept_one.Goals as goal

pub returns-in_default-clause-groups : goal.returns-in_default-clause-groups
returns-in_default-clause-groups c =
    none_taken c.args.limit c.args.spent.now c.args.candidate (option_map (λ (r : Bor Summary). summary_of r.now) c.args.callee) c.args.groups.now.items
    (sym c.in_default.is ∙ c.decide.ensures.clone)

pub returns-clause-groups : goal.returns-clause-groups
returns-clause-groups c =
    c.in_ok-push.ensures.items ∙ ap (λ (g : Group). c.args.groups.now.items ++ g ∷ []) c.in_ok-made.ensures
    ∙ ap (λ (gs : List Group). c.args.groups.now.items ++ gs)
    (one_taken c.args.limit c.args.spent.now c.args.candidate (option_map (λ (r : Bor Summary). summary_of r.now) c.args.callee) c.in-Some.clone
    (sym c.in-Some.is ∙ c.decide.ensures.clone))
