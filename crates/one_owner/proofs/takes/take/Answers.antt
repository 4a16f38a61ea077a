use Rattle.std.proofs.Common.{arith, length, subst, sym, ◌<◌}
use Rattle.naim_core.specs.State.{empty_hand}
use Rattle.naim_core.specs.declared.event.Mode.TheVariants as mode
use Rattle.one_owner.proofs.Hands.{some_worker}
use Rattle.one_owner.proofs.Restoring.{began, stops_before}
use Rattle.one_owner.proofs.Taking.{answered, is_read_pin, may_pin, memory_stops, present_pool, reload_reads, taken_back_pin, taken_pin}
use Rattle.one_owner.proofs.takes.take.Goals as goal

pub pin_read-requires-clause-worker : goal.pin_read-requires-clause-worker
pin_read-requires-clause-worker g c = some_worker c.args.loader.now.core empty_hand c.requires.rests.alone

pub pin_read-requires-clause-present : goal.pin_read-requires-clause-present
pin_read-requires-clause-present g c = present_pool _ _ _ _ _ _ g.D.Disk.faults c.args.loader.now c.args.pid c.stands.ensures c.requires.present

pub pin_read-requires-clause-allowed : goal.pin_read-requires-clause-allowed
pin_read-requires-clause-allowed g c = may_pin c.args.loader.now.core c.args.pid mode.Read (omega arith) c.requires.rests.alone

pub read_pin-requires : goal.read_pin-requires
read_pin-requires g c =
    is_read_pin g.T.Poolable.charge_of g.T.Poolable.encoding g.T.Poolable.is_value g.D.Disk.bytes g.D.Disk.reach g.D.Disk.honest g.D.Disk.faults
    c.args.loader.now c.pin_read.new.self c.args.pid c.in-Ready.pin c.in-Ready.ensures.answer

pub reload-requires-clause-underway : goal.reload-requires-clause-underway
reload-requires-clause-underway g c =
    (began _ _ _ _ _ _ g.D.Disk.faults mode.Read c.args.loader.now c.pin_read.new.self c.args.pid c.in-Reload.m c.requires.rests c.stands.ensures
    c.in-Reload.ensures.answer).underway

pub reload-requires-clause-reload : goal.reload-requires-clause-reload
reload-requires-clause-reload g c =
    (began _ _ _ _ _ _ g.D.Disk.faults mode.Read c.args.loader.now c.pin_read.new.self c.args.pid c.in-Reload.m c.requires.rests c.stands.ensures
    c.in-Reload.ensures.answer).reload

pub read_pin-requires-in-Ok : goal.read_pin-requires-in-Ok
read_pin-requires-in-Ok g c =
    reload_reads g.T.Poolable.charge_of g.T.Poolable.encoding g.T.Poolable.is_value g.D.Disk.bytes _ _ g.D.Disk.faults _ _ _ _ c.in-Ok.pin c.in-Ok.ensures.ok

pub stop-requires-clause-worker : goal.stop-requires-clause-worker
stop-requires-clause-worker g c = subst (λ z. 0 < length z.core.hands) (sym c.in-Memory.ensures.answer.1)
    (some_worker c.args.loader.now.core empty_hand c.requires.rests.alone)

pub unreachable-requires : goal.unreachable-requires
unreachable-requires g c =
    answered _ _ _ _ _ _ g.D.Disk.faults c.args.loader.now c.pin_read.new.self c.args.pid c.pin_read.result c.requires.rests c.stands.ensures
    c.requires.present c.pin_read.ensures.answer c.in_default.not-Ready c.in_default.not-Reload c.in_default.not-Memory

pub returns-in-Ready-clause-ok : goal.returns-in-Ready-clause-ok
returns-in-Ready-clause-ok g c =
    taken_pin _ _ _ _ _ _ g.D.Disk.faults c.args.loader.now c.pin_read.new.self c.args.pid c.in-Ready.pin c.read_pin.result c.read_pin.ensures
    c.requires.rests c.stands.ensures c.in-Ready.ensures.answer

pub returns-in-Ok-clause-ok : goal.returns-in-Ok-clause-ok
returns-in-Ok-clause-ok g c =
    let b = began _ _ _ _ _ _ g.D.Disk.faults mode.Read c.args.loader.now c.pin_read.new.self c.args.pid c.in-Reload.m c.requires.rests
    c.stands.ensures c.in-Reload.ensures.answer in
    taken_back_pin _ _ _ _ _ _ g.D.Disk.faults c.args.loader.now c.pin_read.new.self c.reload.new.loader c.args.pid c.in-Reload.m c.in-Ok.pin
    c.read_pin-in-Ok.result c.read_pin-in-Ok.ensures b c.in-Ok.ensures.ok

pub returns-in-Err-clause-err : goal.returns-in-Err-clause-err
returns-in-Err-clause-err g c =
    let b = began _ _ _ _ _ _ g.D.Disk.faults mode.Read c.args.loader.now c.pin_read.new.self c.args.pid c.in-Reload.m c.requires.rests
    c.stands.ensures c.in-Reload.ensures.answer in
    stops_before _ _ _ _ _ _ g.D.Disk.faults mode.Read c.args.loader.now c.pin_read.new.self c.reload.new.loader c.args.pid c.in-Reload.m c.in-Err.failure b
    c.in-Err.ensures.err

pub returns-in-Memory-clause-err : goal.returns-in-Memory-clause-err
returns-in-Memory-clause-err g c = rw c.stop.ensures.same
    (memory_stops g.T.Poolable.charge_of g.T.Poolable.encoding g.T.Poolable.is_value g.D.Disk.bytes g.D.Disk.reach g.D.Disk.honest g.D.Disk.faults
    c.args.loader.now c.pin_read.new.self c.stop.new.loader c.args.pid c.requires.rests c.in-Memory.ensures.answer.1 c.stop.ensures.failed)
