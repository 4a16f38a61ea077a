use Rattle.std.proofs.Common.{of_calls, rules}
use Rattle.std.proofs.lemmas.Fn.{always_returns_same}
use Rattle.clone_groups.proofs.Ranked.{clones_are, rank_is_order, ranked_are, ranks_first}
use Rattle.clone_groups.proofs.ranking.ranked.Goals as goal

pub returns-clause-ranked : goal.returns-clause-ranked
returns-clause-ranked c =
    let order = c.sort_unstable_by.ensures.sorted ranks_first rank_is_order (always_returns_same _ _ _ (λ a r f k. search (rules, of_calls))) in
    ranked_are c.args.table.now c.args.groups.entries c.in_ok-candidates.candidates.items c.sort_unstable_by.new.self.items c.in_ok-candidates.ensures
    c.sort_unstable_by.ensures.permutation order

pub returns-clause-clones : goal.returns-clause-clones
returns-clause-clones c =
    clones_are c.args.table.now c.args.groups.entries c.in_ok-candidates.candidates.items c.sort_unstable_by.new.self.items c.in_ok-candidates.ensures
    c.sort_unstable_by.ensures.permutation
