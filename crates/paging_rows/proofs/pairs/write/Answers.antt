use Rattle.std.proofs.Common.{arith, length, subst, sym, ◌+◌, ◌≤◌}
use Rattle.one_owner.proofs.Taking.{present_pool}
use Rattle.paging_rows.specs.Pairs.{HoldsWrite}
use Rattle.paging_rows.proofs.Turns.{write_begun}
use Rattle.paging_rows.proofs.pairs.write.Goals as goal

pub pin_write-requires-clause-present : goal.pin_write-requires-clause-present
pin_write-requires-clause-present g c = present_pool _ _ _ _ _ _ g.D.Disk.faults c.args.pools.now c.args.pid c.stands.ensures c.requires.present

pub end_write-requires-clause-writes : goal.end_write-requires-clause-writes
end_write-requires-clause-writes g c =
    let a = rw c.in-Ready-Write.field-0-is at c.in-Ready-Write.ensures.answer in
    subst (λ q. HoldsWrite c.pin_write.new.self c.args.worker c.args.other.now q (c.charge-charge.result + c.from.result)) (sym a.1.0)
    (write_begun c.args.pools.now c.pin_write.new.self c.args.worker c.args.pid (c.charge-charge.result + c.from.result) c.args.other.now c.requires.worker
    c.stands.ensures.sound c.pin_write.ensures.sound c.requires.stands a.0)

pub end_write-requires-clause-fits : goal.end_write-requires-clause-fits
end_write-requires-clause-fits g c =
    subst (λ z. g.T.Poolable.charge_of z + length (g.T.Poolable.encoding z) ≤ c.charge-charge.result + c.from.result) (sym c.in-Ok.ensures.ok)
    (let a = c.charge-charge.ensures.charge in let b = c.compact_len.ensures.len in let d = c.from.ensures in omega arith)
