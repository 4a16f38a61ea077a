use Rattle.std.proofs.Common.{◌∙◌, Bor, map, map-id, rules, sym}
use Rattle.std.proofs.lemmas.Iterator.Adapters.{YieldsList-from_vec}
use Rattle.std.proofs.lemmas.Iterator.Consumers.{YieldsList-end}
use Rattle.std.specs.Option.{option_map}
use Rattle.plan_laws.specs.Groups.{at_start}
use Rattle.call_graph.specs.Summaries.{summary_of}
use Rattle.call_graph.specs.declared.summary.Summary.{Summary}
use Rattle.clone_groups.proofs.Accepting.{going_first, going_last, going_on}
use Rattle.clone_groups.proofs.grouping.accept.Goals as goal

pub loop-candidate-init : goal.loop-candidate-init
loop-candidate-init c =
    going_first (map summary_of c.args.routines.now) c.args.limit (at_start (map summary_of c.args.routines.now) c.args.next) c.at_start-spent.result
    c.new-groups.result.items c.new-groups.ensures.items c.at_start-spent.ensures

pub loop-candidate-preserved : goal.loop-candidate-preserved
loop-candidate-preserved c =
    going_on (map summary_of c.args.routines.now) c.args.limit (at_start (map summary_of c.args.routines.now) c.args.next) c.loop-candidate.spent
    c.accept_one.new.spent c.loop-candidate.yielded c.in-Some.candidate c.loop-candidate.groups.items c.accept_one.new.groups.items
    (option_map (λ (r : Bor Summary). summary_of r.now) c.find-callee.result) c.loop-candidate.invariant c.find-callee.ensures
    c.in_ok-accept_one.ensures.groups c.in_ok-accept_one.ensures.spent

pub returns : goal.returns
returns c =
    let end = YieldsList-end (YieldsList-from_vec {s = c.into_iter-candidate-iterator.result} c.args.ranked.items (search rules) (search rules))
    c.loop-candidate.yielded c.loop-candidate.candidate-iterator c.loop-candidate.yielded_by c.next.result c.next.new.self c.in-None.is c.next.ensures.steps in
    going_last (map summary_of c.args.routines.now) c.args.limit (at_start (map summary_of c.args.routines.now) c.args.next) c.loop-candidate.spent
    c.loop-candidate.yielded c.args.ranked.items c.loop-candidate.groups.items c.loop-candidate.invariant (sym (map-id c.loop-candidate.yielded) ∙ end.0)
