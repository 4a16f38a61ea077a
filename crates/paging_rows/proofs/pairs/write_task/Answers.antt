use Rattle.std.proofs.Common.{arith, length, subst, sym, ◌+◌, ◌≤◌}
use Rattle.paging_rows.proofs.Waves.{wave_pinned}
use Rattle.paging_rows.proofs.pairs.write_task.Goals as goal

pub end_task-requires-clause-wave : goal.end_task-requires-clause-wave
end_task-requires-clause-wave g c =
    let a = rw c.in-Ready-Write.field-0-is at c.in-Ready-Write.ensures.answer
    in (wave_pinned c.args.pools.now c.pin_write.new.self c.args.pid (c.charge-charge.result + c.from.result) c.pin_write.ensures.sound c.requires.wave
    a.0).0

pub end_task-requires-clause-pool : goal.end_task-requires-clause-pool
end_task-requires-clause-pool g c =
    let a = rw c.in-Ready-Write.field-0-is at c.in-Ready-Write.ensures.answer
    in (wave_pinned c.args.pools.now c.pin_write.new.self c.args.pid (c.charge-charge.result + c.from.result) c.pin_write.ensures.sound c.requires.wave
    a.0).1

pub end_task-requires-clause-pid : goal.end_task-requires-clause-pid
end_task-requires-clause-pid g c = let a = rw c.in-Ready-Write.field-0-is at c.in-Ready-Write.ensures.answer in a.1.0

pub end_task-requires-clause-fits : goal.end_task-requires-clause-fits
end_task-requires-clause-fits g c =
    subst (λ z. g.T.Poolable.charge_of z + length (g.T.Poolable.encoding z) ≤ c.charge-charge.result + c.from.result) (sym c.in-Ok.ensures.ok)
    (let a = c.charge-charge.ensures.charge in let b = c.compact_len.ensures.len in let d = c.from.ensures in omega arith)
