use Rattle.std.proofs.Common.{ap}
use Rattle.paging_rows.proofs.Turns.{compact_moves, offload_moves, standing_hand, standing_worker}
use Rattle.paging_rows.proofs.pairs.evict.Goals as goal

pub evict_begin-requires-clause-worker : goal.evict_begin-requires-clause-worker
evict_begin-requires-clause-worker g c = standing_worker _ _ _ _ c.requires.worker c.requires.stands

pub evict_begin-requires-clause-free : goal.evict_begin-requires-clause-free
evict_begin-requires-clause-free g c = ap (λ z. z.moved) (standing_hand c.args.pools.now c.args.worker c.args.mine.now c.args.other.now c.requires.worker
    c.requires.stands)

pub compact-requires-clause-moves : goal.compact-requires-clause-moves
compact-requires-clause-moves g c =
    let a = rw c.in-Begun-Compacting.field-0-is at c.in-Begun-Compacting.ensures.answer in
    compact_moves c.args.pools.now c.evict_begin.new.self c.args.worker _ c.args.wanted c.args.mine.now c.args.other.now c.requires.worker
    c.stands.ensures.sound c.evict_begin.ensures.sound c.requires.stands a.1.1

pub offload-requires-clause-moves : goal.offload-requires-clause-moves
offload-requires-clause-moves g c =
    let a = rw c.in-Begun-Offloading.field-0-is at c.in-Begun-Offloading.ensures.answer in
    offload_moves c.args.pools.now c.evict_begin.new.self c.args.worker _ c.args.wanted c.args.mine.now c.args.other.now c.requires.worker
    c.stands.ensures.sound c.evict_begin.ensures.sound c.requires.stands a.1.1
