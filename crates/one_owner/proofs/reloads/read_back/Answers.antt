use Rattle.std.proofs.Common.{sym, ◌∙◌}
use Rattle.one_owner.proofs.Hands.{some_worker}
use Rattle.one_owner.proofs.Restoring.{other_charge, restore_stops, restored_ends, unreadable}
use Rattle.one_owner.proofs.reloads.read_back.Goals as goal

pub finish-requires-clause-ends : goal.finish-requires-clause-ends
finish-requires-clause-ends g c =
    let f = rw c.in-Some.is at c.in-Ok.ensures.found in
    restored_ends _ _ _ _ _ _ g.D.Disk.faults c.args.mode c.args.loader.now c.args.pid c.args.filed c.args.charge c.args.disk c.args.bytes.items
    c.in-Some.body c.requires.underway c.requires.reload c.requires.fetched f.0 (f.1 ∙ c.as_slice.ensures.value)
    (sym c.charge.ensures.charge ∙ c.if-charge.false)

pub stop-requires-clause-worker : goal.stop-requires-clause-worker
stop-requires-clause-worker g c = some_worker c.args.loader.now.core _ c.requires.underway.alone

pub returns-then-charge-clause-err : goal.returns-then-charge-clause-err
returns-then-charge-clause-err g c =
    let f = rw c.in-Some.is at c.in-Ok.ensures.found in
    let other =
    other_charge g.T.Poolable.charge_of g.T.Poolable.encoding g.T.Poolable.is_value g.met.T.Poolable.tells_apart c.in-Some.body c.args.bytes.items
    c.args.charge f.0 (f.1 ∙ c.as_slice.ensures.value) (λ e. c.if-charge.true (c.charge.ensures.charge ∙ e)) in
    let cause =
    unreadable _ _ _ _ _ _ g.D.Disk.faults c.args.mode c.args.loader.now c.args.pid c.args.filed c.args.charge c.args.disk c.args.bytes.items
    c.requires.reload c.requires.fetched other in
    rw c.stop-then-charge.ensures.same
    (restore_stops _ _ _ g.D.Disk.bytes _ _ g.D.Disk.faults c.args.mode c.args.loader.now c.stop-then-charge.new.loader c.args.pid c.args.filed
    c.args.charge c.args.disk _ c.requires.underway cause c.stop-then-charge.ensures.failed)
