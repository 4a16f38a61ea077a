use Rattle.std.proofs.Common.{refl}
use Rattle.one_owner.specs.Alone.{idle, reading}
use Rattle.one_owner.proofs.Giving.{gives_on, reads_still, room_left}
use Rattle.one_owner.proofs.Hands.{idle_works}
use Rattle.one_owner.proofs.Pools.{content_same}
use Rattle.one_owner.proofs.gives.leave_whole.Goals as goal

pub make_room-requires-clause-idle : goal.make_room-requires-clause-idle
make_room-requires-clause-idle g c = idle_works c.args.loader.now (reading c.args.pin.pid) refl c.requires.reads

pub leave-requires-clause-reads : goal.leave-requires-clause-reads
leave-requires-clause-reads g c = reads_still g.D.Disk.faults c.args.loader.now c.make_room.new.loader c.args.pin.pid c.args.charge c.requires.reads
    c.in-Ok.ensures.ok

pub leave-requires-clause-content : goal.leave-requires-clause-content
leave-requires-clause-content g c = content_same c.args.loader.now c.make_room.new.loader c.args.pin.pid _ c.in-Ok.ensures.ok.keeps.kept c.requires.content

pub leave-requires-clause-fits : goal.leave-requires-clause-fits
leave-requires-clause-fits g c = room_left g.D.Disk.faults c.args.loader.now c.make_room.new.loader c.args.charge _ (idle c.args.loader.now.core)
    c.in-Ok.ensures.ok c.requires.charge

pub returns-in-Ok-clause-ok : goal.returns-in-Ok-clause-ok
returns-in-Ok-clause-ok g c = gives_on g.D.Disk.faults c.args.loader.now c.make_room.new.loader c.leave.new.loader c.args.charge (idle c.args.loader.now.core)
    c.in-Ok.ensures.ok c.leave.ensures
