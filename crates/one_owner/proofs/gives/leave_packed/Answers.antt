use Rattle.std.proofs.Common.{arith, ap, length, refl, ◌≡◌, ◌∙◌}
use Rattle.std.specs.Arc.{arc_value}
use Rattle.one_owner.specs.Alone.{idle, reading}
use Rattle.one_owner.specs.Causes.{RoomCause}
use Rattle.one_owner.proofs.Frames.{rest_stops}
use Rattle.one_owner.proofs.Giving.{gives_on, reads_still, room_left, short_there}
use Rattle.one_owner.proofs.Hands.{idle_works, some_worker}
use Rattle.one_owner.proofs.Pools.{content_same}
use Rattle.one_owner.proofs.gives.leave_packed.Goals as goal

pub stop-requires-clause-worker : goal.stop-requires-clause-worker
stop-requires-clause-worker g c = some_worker c.args.loader.now.core (reading c.args.pin.pid) c.requires.reads.alone

pub make_room-requires-clause-idle : goal.make_room-requires-clause-idle
make_room-requires-clause-idle g c = idle_works c.args.loader.now (reading c.args.pin.pid) refl c.requires.reads

pub make_room-requires-clause-wanted : goal.make_room-requires-clause-wanted
make_room-requires-clause-wanted g c =
    let l : c.len.result ≡ length (g.T.Poolable.encoding (arc_value c.args.pin.body)) = c.len.ensures ∙ c.in-Ok.bytes.ok.0 ∙ ap length
    (c.in-Ok.ensures.spelling ∙ ap g.T.Poolable.encoding c.deref.ensures) in
    let s = short_there _ _ _ _ _ _ g.D.Disk.faults c.args.loader.now c.args.pin.pid (arc_value c.args.pin.body) c.stands.ensures c.requires.content
    in omega arith

pub leave-requires-clause-reads : goal.leave-requires-clause-reads
leave-requires-clause-reads g c = reads_still g.D.Disk.faults c.args.loader.now c.make_room.new.loader c.args.pin.pid c.len.result c.requires.reads
    c.in-Ok-make_room.ensures.ok

pub leave-requires-clause-content : goal.leave-requires-clause-content
leave-requires-clause-content g c = content_same c.args.loader.now c.make_room.new.loader c.args.pin.pid _ c.in-Ok-make_room.ensures.ok.keeps.kept
    c.requires.content

pub leave-requires-clause-fits : goal.leave-requires-clause-fits
leave-requires-clause-fits g c =
    let l : c.len.result ≡ length (g.T.Poolable.encoding (arc_value c.args.pin.body)) = c.len.ensures ∙ c.in-Ok.bytes.ok.0 ∙ ap length
    (c.in-Ok.ensures.spelling ∙ ap g.T.Poolable.encoding c.deref.ensures) in
    room_left g.D.Disk.faults c.args.loader.now c.make_room.new.loader c.len.result _ (idle c.args.loader.now.core) c.in-Ok-make_room.ensures.ok l

pub returns-in-Ok-make_room-clause-ok : goal.returns-in-Ok-make_room-clause-ok
returns-in-Ok-make_room-clause-ok g c = gives_on g.D.Disk.faults c.args.loader.now c.make_room.new.loader c.leave.new.loader c.len.result
    (idle c.args.loader.now.core) c.in-Ok-make_room.ensures.ok c.leave.ensures

pub returns-in_default-clause-err : goal.returns-in_default-clause-err
returns-in_default-clause-err g c =
    let C = RoomCause (g.D.Disk.faults c.args.loader.now.disk) (g.D.Disk.faults c.stop.new.loader.disk) in
    rw c.stop.ensures.same (rest_stops g.D.Disk.faults C c.args.loader.now c.stop.new.loader (reading c.args.pin.pid) _ c.requires.reads tt
    c.stop.ensures.failed)
