use Rattle.std.proofs.Common.{sym, arith}
use Rattle.cleanup.proofs.Joining.{merges_start, merges_end, names_now, later, target_within, join_more, join_smaller, go_on}
use Rattle.cleanup.proofs.merge.join_blocks.Goals as goal

pub loop-b-init : goal.loop-b-init
loop-b-init c =
    merges_start c.args.blocks.now c.args.counts.now c.args.marks.now c.requires.counts c.requires.marks c.requires.inside c.requires.forward

pub next-requires-clause-inside : goal.next-requires-clause-inside
next-requires-clause-inside c = names_now _ _ _ _ _ c.loop-b.invariant

pub join-requires-clause-marked : goal.join-requires-clause-marked
join-requires-clause-marked c =
    let lt = target_within _ _ _ _ _ c.loop-b.invariant c.in-Some.t c.loop-b-test.true (sym c.in-Some.ensures) in
    let size = c.loop-b.invariant.size in
    omega arith

pub join-requires-clause-first : goal.join-requires-clause-first
join-requires-clause-first c = later _ _ _ _ _ c.loop-b.invariant c.in-Some.t c.loop-b-test.true (sym c.in-Some.ensures)

pub join-requires-clause-second : goal.join-requires-clause-second
join-requires-clause-second c = target_within _ _ _ _ _ c.loop-b.invariant c.in-Some.t c.loop-b-test.true (sym c.in-Some.ensures)

pub loop-b-smaller-in-Continue-1 : goal.loop-b-smaller-in-Continue-1
loop-b-smaller-in-Continue-1 c =
    join_smaller _ _ _ _ _ c.loop-b.invariant c.in-Some.t c.loop-b-test.true (sym c.in-Some.ensures) c.join.new.marks c.join.new.blocks
    c.in_ok-join-in-Some.ensures.marks c.in_ok-join-in-Some.ensures.blocks

pub loop-b-preserved-in-Continue-1 : goal.loop-b-preserved-in-Continue-1
loop-b-preserved-in-Continue-1 c =
    join_more _ _ _ _ _ c.loop-b.invariant c.in-Some.t c.loop-b-test.true (sym c.in-Some.ensures) c.join.new.marks c.join.new.blocks
    c.in_ok-join-in-Some.ensures.marks c.in_ok-join-in-Some.ensures.blocks

pub loop-b-preserved : goal.loop-b-preserved
loop-b-preserved c = go_on _ _ _ _ _ c.loop-b.invariant c.loop-b-test.true (sym c.in-None.ensures)

pub returns-clause-whole : goal.returns-clause-whole
returns-clause-whole c = merges_end _ _ _ _ _ c.loop-b-test.false c.loop-b.invariant

pub returns-clause-inside : goal.returns-clause-inside
returns-clause-inside c = names_now _ _ _ _ _ c.loop-b.invariant
