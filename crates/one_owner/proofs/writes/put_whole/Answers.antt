use Rattle.std.proofs.Common.{arith, refl}
use Rattle.naim_core.specs.declared.event.Form.TheVariants as form
use Rattle.one_owner.specs.Alone.{idle, writing}
use Rattle.one_owner.proofs.Hands.{idle_works}
use Rattle.one_owner.proofs.Placing.{has_room, place_stops}
use Rattle.one_owner.proofs.Writing.{rewrites_on, stated_still, writes_still}
use Rattle.one_owner.proofs.writes.put_whole.Goals as goal

pub make_room-requires-clause-idle : goal.make_room-requires-clause-idle
make_room-requires-clause-idle g c = idle_works c.args.loader.now (writing c.args.pin.pid) refl c.requires.writes

pub rewrite-requires-clause-writes : goal.rewrite-requires-clause-writes
rewrite-requires-clause-writes g c =
    writes_still g.D.Disk.faults c.args.loader.now c.make_room.new.loader c.args.pin.pid c.args.charge c.requires.writes c.in-Ok.ensures.ok

pub rewrite-requires-clause-stated : goal.rewrite-requires-clause-stated
rewrite-requires-clause-stated g c =
    stated_still g.D.Disk.faults c.args.loader.now c.make_room.new.loader c.args.pin.pid _ c.args.charge
    (idle c.args.loader.now.core) c.in-Ok.ensures.ok c.requires.stated

pub rewrite-requires-clause-fits : goal.rewrite-requires-clause-fits
rewrite-requires-clause-fits g c =
    let b = g.met.T.Poolable.bounds c.args.body.value c.requires.value in
    has_room g.D.Disk.faults c.args.loader.now c.make_room.new.loader form.Expanded _ _ c.args.charge
    (idle c.args.loader.now.core) c.in-Ok.ensures.ok c.requires.charge
    (let f = c.requires.fits in let l = b.1 in let e = c.requires.charge in omega arith)

pub returns-in-Ok-clause-ok : goal.returns-in-Ok-clause-ok
returns-in-Ok-clause-ok g c =
    rewrites_on g.D.Disk.faults c.args.loader.now c.make_room.new.loader c.rewrite.new.loader c.args.pin.pid _ _ c.args.brief c.args.charge
    (idle c.args.loader.now.core)
    c.in-Ok.ensures.ok refl c.rewrite.ensures

pub returns-in-Err-clause-err : goal.returns-in-Err-clause-err
returns-in-Err-clause-err g c = place_stops g.D.Disk.faults c.args.loader.now c.make_room.new.loader c.args.pin.pid _ c.in-Err.failure c.in-Err.ensures.err
