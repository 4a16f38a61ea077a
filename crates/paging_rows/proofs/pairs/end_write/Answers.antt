use Rattle.std.proofs.Common.{ap, length, subst, sym, Some, ◌+◌, ◌≤◌}
use Rattle.std.specs.Arc.{arc_value}
use Rattle.naim_core.specs.Rows.{stated_room}
use Rattle.naim_core.specs.State.{empty_hand, is_written}
use Rattle.paging_rows.specs.Pairs.{grip, pool_of}
use Rattle.paging_rows.proofs.Hands.{its_hand, worker_there}
use Rattle.paging_rows.proofs.Turns.{write_stands}
use Rattle.paging_rows.proofs.pairs.end_write.Goals as goal

pub unpin_write-requires-clause-worker : goal.unpin_write-requires-clause-worker
unpin_write-requires-clause-worker g c = worker_there c.args.pools.now.core c.args.worker _ _ c.requires.worker c.requires.writes.works.hands

pub unpin_write-requires-clause-held : goal.unpin_write-requires-clause-held
unpin_write-requires-clause-held g c = ap (λ z. z.written) (its_hand c.args.pools.now.core c.args.worker (record empty_hand { written = Some c.args.pin.pid })
    (grip (pool_of c.args.other.now)) c.requires.worker c.requires.writes.works.hands)

pub unpin_write-requires-clause-pool : goal.unpin_write-requires-clause-pool
unpin_write-requires-clause-pool g c =
    let h = c.requires.writes in
    let fits = subst (λ st. g.T.Poolable.charge_of (arc_value c.args.body) + length (g.T.Poolable.encoding (arc_value c.args.body)) ≤ stated_room st)
    (sym h.stage) c.requires.fits in (h.pool, h.at, ap is_written h.stage, fits)

pub returns-in-Ok-Done : goal.returns-in-Ok-Done
returns-in-Ok-Done g c =
    let a = rw c.in-Ok-Done.field-0-is at c.in-Ok-Done.ensures.answer in
    write_stands g.T.Poolable.charge_of g.T.Poolable.encoding c.args.pools.now c.unpin_write.new.self c.args.worker c.args.pin.pid c.args.room _ c.args.brief
    c.args.other.now c.requires.worker c.requires.writes a
