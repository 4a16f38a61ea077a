use Rattle.naim_core.specs.State.{empty_hand}
use Rattle.naim_core.specs.declared.event.Mode.TheVariants as mode
use Rattle.one_owner.proofs.Hands.{some_worker}
use Rattle.one_owner.proofs.Restoring.{began, stops_before}
use Rattle.one_owner.proofs.Taking.{may_pin, present_pool}
use Rattle.one_owner.proofs.Writing.{is_write_pin, reload_writes, write_answered, written_back_pin, written_pin}
use Rattle.one_owner.proofs.takes.take_to_write.Goals as goal

pub pin_write-requires-clause-worker : goal.pin_write-requires-clause-worker
pin_write-requires-clause-worker g c = some_worker c.args.loader.now.core empty_hand c.requires.rests.alone

pub pin_write-requires-clause-present : goal.pin_write-requires-clause-present
pin_write-requires-clause-present g c = present_pool _ _ _ _ _ _ g.D.Disk.faults c.args.loader.now c.args.pid c.stands.ensures c.requires.present

pub pin_write-requires-clause-allowed : goal.pin_write-requires-clause-allowed
pin_write-requires-clause-allowed g c = may_pin c.args.loader.now.core c.args.pid (mode.Write c.args.room) c.requires.room c.requires.rests.alone

pub write_pin-requires : goal.write_pin-requires
write_pin-requires g c =
    is_write_pin g.T.Poolable.charge_of g.T.Poolable.encoding g.T.Poolable.is_value g.D.Disk.bytes g.D.Disk.reach g.D.Disk.honest g.D.Disk.faults
    c.args.loader.now
    c.pin_write.new.self c.args.pid c.args.room c.in-Ready.pin c.in-Ready.ensures.answer

pub reload-requires-clause-underway : goal.reload-requires-clause-underway
reload-requires-clause-underway g c =
    (began _ _ _ _ _ _ g.D.Disk.faults
    (mode.Write c.args.room) c.args.loader.now c.pin_write.new.self c.args.pid c.in-Reload.m c.requires.rests c.stands.ensures
    c.in-Reload.ensures.answer).underway

pub reload-requires-clause-reload : goal.reload-requires-clause-reload
reload-requires-clause-reload g c =
    (began _ _ _ _ _ _ g.D.Disk.faults
    (mode.Write c.args.room) c.args.loader.now c.pin_write.new.self c.args.pid c.in-Reload.m c.requires.rests c.stands.ensures
    c.in-Reload.ensures.answer).reload

pub write_pin-requires-in-Ok : goal.write_pin-requires-in-Ok
write_pin-requires-in-Ok g c =
    reload_writes g.T.Poolable.charge_of g.T.Poolable.encoding g.T.Poolable.is_value g.D.Disk.bytes _ _ g.D.Disk.faults _ _ _ c.args.room _
    c.in-Ok.pin c.in-Ok.ensures.ok

pub unreachable-requires : goal.unreachable-requires
unreachable-requires g c =
    write_answered _ _ _ _ _ _ g.D.Disk.faults c.args.loader.now c.pin_write.new.self c.args.pid c.args.room c.pin_write.result c.requires.rests
    c.stands.ensures
    c.requires.present c.pin_write.ensures.answer c.in_default.not-Ready c.in_default.not-Reload

pub returns-in-Ready-clause-ok : goal.returns-in-Ready-clause-ok
returns-in-Ready-clause-ok g c =
    written_pin _ _ _ _ _ _ g.D.Disk.faults c.args.loader.now c.pin_write.new.self c.args.pid c.args.room c.in-Ready.pin c.write_pin.result c.write_pin.ensures
    c.requires.rests c.stands.ensures c.in-Ready.ensures.answer

pub returns-in-Ok-clause-ok : goal.returns-in-Ok-clause-ok
returns-in-Ok-clause-ok g c =
    let b = began _ _ _ _ _ _ g.D.Disk.faults
    (mode.Write c.args.room) c.args.loader.now c.pin_write.new.self c.args.pid c.in-Reload.m c.requires.rests c.stands.ensures c.in-Reload.ensures.answer in
    written_back_pin _ _ _ _ _ _ g.D.Disk.faults c.args.loader.now c.pin_write.new.self c.reload.new.loader c.args.pid c.args.room c.in-Reload.m c.in-Ok.pin
    c.write_pin-in-Ok.result c.write_pin-in-Ok.ensures b c.in-Ok.ensures.ok

pub returns-in-Err-clause-err : goal.returns-in-Err-clause-err
returns-in-Err-clause-err g c =
    let b = began _ _ _ _ _ _ g.D.Disk.faults
    (mode.Write c.args.room) c.args.loader.now c.pin_write.new.self c.args.pid c.in-Reload.m c.requires.rests c.stands.ensures c.in-Reload.ensures.answer in
    stops_before _ _ _ _ _ _ g.D.Disk.faults (mode.Write c.args.room) c.args.loader.now c.pin_write.new.self c.reload.new.loader c.args.pid c.in-Reload.m
    c.in-Err.failure b c.in-Err.ensures.err
