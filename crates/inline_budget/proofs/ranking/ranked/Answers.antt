use Rattle.std.proofs.Common.{map, of_calls, rules}
use Rattle.std.proofs.lemmas.Fn.{always_returns_same}
use Rattle.call_graph.specs.Summaries.{summary_of}
use Rattle.inline_budget.proofs.Ordered.{rank_is_order, ranked_are, ranks_first}
use Rattle.inline_budget.proofs.ranking.ranked.Goals as goal

pub returns : goal.returns
returns c =
    let order = c.sort_unstable_by.ensures.sorted ranks_first rank_is_order (always_returns_same _ _ _ (λ a r f k. search (rules, of_calls))) in
    ranked_are (map summary_of c.args.routines.now) c.requires.apart c.in_ok-sites.sites.items c.sort_unstable_by.new.self.items c.in_ok-sites.ensures
    c.sort_unstable_by.ensures.permutation order
