use Rattle.std.proofs.Common.{ap}
use Rattle.std.specs.Arc.{arc_value}
use Rattle.naim_loader.specs.Calls.{unpin_form}
use Rattle.one_owner.specs.Alone.{reading}
use Rattle.one_owner.proofs.Giving.{gone_back, let_go}
use Rattle.one_owner.proofs.Hands.{hand_is, read_there, some_worker}
use Rattle.one_owner.proofs.gives.leave.Goals as goal

pub unpin_read-requires-clause-worker : goal.unpin_read-requires-clause-worker
unpin_read-requires-clause-worker g c = some_worker c.args.loader.now.core (reading c.args.pin.pid) c.requires.reads.alone

pub unpin_read-requires-clause-held : goal.unpin_read-requires-clause-held
unpin_read-requires-clause-held g c = ap (λ h. h.read) (hand_is c.args.loader.now.core (reading c.args.pin.pid) c.requires.reads.alone)

pub unpin_read-requires-clause-pool : goal.unpin_read-requires-clause-pool
unpin_read-requires-clause-pool g c = read_there c.args.loader.now.core c.args.pin.pid c.stands.ensures.sound c.requires.reads.alone

pub unreachable-requires : goal.unreachable-requires
unreachable-requires g c =
    let a = c.in-Err.ensures.answer c.requires.reads.running in
    let_go _ _ _ _ _ _ g.D.Disk.faults c.args.loader.now c.args.pin.pid (arc_value c.args.pin.body) (unpin_form c.args.packed) c.in-Err.field-0.1
    c.requires.reads c.stands.ensures c.requires.content c.requires.fits a.1

pub returns : goal.returns
returns g c = gone_back _ _ _ _ _ _ g.D.Disk.faults c.args.loader.now c.unpin_read.new.self c.args.pin.pid (unpin_form c.args.packed) c.requires.reads
    c.stands.ensures (c.in-Ok.ensures.answer c.requires.reads.running)
