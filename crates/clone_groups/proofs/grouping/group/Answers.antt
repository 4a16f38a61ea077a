use Rattle.std.proofs.Common.{◌≡◌, ◌∙◌, List, ap, map, subst}
use Rattle.std.specs.List.Sorted.{IsPermutation}
use Rattle.std.proofs.lemmas.Result.{IfOk-weaker}
use Rattle.plan_laws.specs.Groups.{Group, at_start, groups, ranked_groups, taken}
use Rattle.plan_laws.proofs.GroupRanking.{group_ranking_only}
use Rattle.call_graph.specs.Summaries.{summary_of}
use Rattle.clone_groups.specs.Grouping.{accepted, taken_by}
use Rattle.clone_groups.specs.Ranking.{group_of}
use Rattle.clone_groups.proofs.Accepting.{taken_are}
use Rattle.clone_groups.proofs.grouping.group.Goals as goal

pub returns : goal.returns
returns c =
    let ss = map summary_of c.args.routines.now in
    let start = at_start ss c.args.next in
    let candidates = c.in_ok-ranked.ranked.items in
    let order = c.in_ok-ranked.ensures.ranked in
    let ranked : map group_of candidates ≡ ranked_groups ss c.args.main
    = group_ranking_only ss c.args.main (map group_of candidates)
    (subst (λ (gs : List Group). IsPermutation gs (map group_of candidates)) c.in_ok-found.ensures order.all) order.order in
    IfOk-weaker c.accept.result (λ v. v.items ≡ map accepted (taken_by ss c.args.limit start candidates))
    (λ v. v.items ≡ map accepted (groups ss c.args.table.now c.args.main c.args.next c.args.limit))
    (λ v h. h ∙ ap (map accepted) (taken_are ss c.args.table.now c.args.limit start candidates c.in_ok-ranked.ensures.clones
    ∙ ap (taken ss c.args.table.now c.args.limit start) ranked)) c.accept.ensures
