use Rattle.std.proofs.Common.{◌≡◌, [], arith, rules}
use Rattle.clone_groups.proofs.Ranked.{pairing_first, pairing_last, pairing_more, pairing_within}
use Rattle.clone_groups.proofs.ranking.candidates.Goals as goal

pub loop-key-init : goal.loop-key-init
loop-key-init c =
    pairing_first c.args.table.now c.args.groups.entries c.into_iter-key-iterator.result c.in_ok-clones.clones.items c.in_ok-candidates.candidates.items
    c.into_iter-key-iterator.ensures.into_iter_gives.0 c.in_ok-clones.ensures c.in_ok-candidates.ensures.items

pub index-requires : goal.index-requires
index-requires c =
    let lt = pairing_within c.args.table.now c.args.groups.entries c.loop-key.key-iterator c.in_ok-clones.clones.items c.loop-key.at
    c.loop-key.candidates.items c.loop-key.invariant (c.in-Some.key, c.in-Some.sites) c.next.new.self c.in-Some.ensures.steps in
    omega (arith, c.in_ok-clones.clones.ok)

pub overflow_add-at : goal.overflow_add-at
overflow_add-at c =
    let lt = pairing_within c.args.table.now c.args.groups.entries c.loop-key.key-iterator c.in_ok-clones.clones.items c.loop-key.at
    c.loop-key.candidates.items c.loop-key.invariant (c.in-Some.key, c.in-Some.sites) c.next.new.self c.in-Some.ensures.steps in
    omega (arith, c.in_ok-clones.clones.ok, c.in_ok-clones.clones.small)

pub loop-key-preserved : goal.loop-key-preserved
loop-key-preserved c =
    pairing_more c.args.table.now c.args.groups.entries c.loop-key.key-iterator c.in_ok-clones.clones.items c.loop-key.at
    c.loop-key.candidates.items c.loop-key.invariant (c.in-Some.key, c.in-Some.sites) c.next.new.self c.in-Some.ensures.steps c.index.result.now
    c.push.new.self.items c.index.ensures c.in_ok-push.ensures.items

pub returns : goal.returns
returns c =
    let none : c.loop-key.key-iterator ≡ [] = search rules in
    pairing_last c.args.table.now c.args.groups.entries c.loop-key.key-iterator c.in_ok-clones.clones.items c.loop-key.at c.loop-key.candidates.items
    c.loop-key.invariant none
