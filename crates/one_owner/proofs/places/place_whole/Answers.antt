use Rattle.std.proofs.Common.{ap, arith, length, refl, subst, sym, ◌∙◌}
use Rattle.naim_core.specs.State.{empty_hand}
use Rattle.naim_core.specs.declared.event.Form.TheVariants as form
use Rattle.one_owner.specs.Alone.{idle}
use Rattle.one_owner.specs.Causes.{PlaceCause}
use Rattle.one_owner.proofs.Frames.{rest_stops}
use Rattle.one_owner.proofs.Hands.{idle_works, some_worker}
use Rattle.one_owner.proofs.Placing.{absent_still, few_still, has_room, place_stops, places_as, places_on, rests_still}
use Rattle.one_owner.proofs.places.place_whole.Goals as goal

pub stop-requires-clause-worker : goal.stop-requires-clause-worker
stop-requires-clause-worker g c = some_worker c.args.loader.now.core empty_hand c.requires.rests.alone

pub make_room-requires-clause-idle : goal.make_room-requires-clause-idle
make_room-requires-clause-idle g c = idle_works c.args.loader.now empty_hand refl c.requires.rests

pub put_in-requires-clause-rests : goal.put_in-requires-clause-rests
put_in-requires-clause-rests g c = rests_still g.D.Disk.faults c.args.loader.now c.make_room.new.loader c.args.charge c.requires.rests
    c.in-Ok-make_room.ensures.ok

pub put_in-requires-clause-absent : goal.put_in-requires-clause-absent
put_in-requires-clause-absent g c = absent_still g.D.Disk.faults c.args.loader.now c.make_room.new.loader c.args.pid c.args.charge (idle c.args.loader.now.core)
    c.in-Ok-make_room.ensures.ok c.requires.absent

pub put_in-requires-clause-room : goal.put_in-requires-clause-room
put_in-requires-clause-room g c = few_still g.D.Disk.faults c.args.loader.now c.make_room.new.loader c.args.charge (idle c.args.loader.now.core)
    c.in-Ok-make_room.ensures.ok c.requires.room

pub put_in-requires-clause-fits : goal.put_in-requires-clause-fits
put_in-requires-clause-fits g c =
    let value = subst g.T.Poolable.is_value (sym c.in-Ok.ensures.ok) c.requires.value in
    let b = g.met.T.Poolable.bounds c.in-Ok.body.value value in
    let e = c.requires.charge ∙ ap g.T.Poolable.charge_of (sym c.in-Ok.ensures.ok) in
    has_room g.D.Disk.faults c.args.loader.now c.make_room.new.loader form.Expanded _ _ c.args.charge (idle c.args.loader.now.core) c.in-Ok-make_room.ensures.ok
    e (let f = c.requires.fits in let l = b.1 in omega arith)

pub put_in-requires-clause-value : goal.put_in-requires-clause-value
put_in-requires-clause-value g c = subst g.T.Poolable.is_value (sym c.in-Ok.ensures.ok) c.requires.value

pub returns-in-Ok-make_room-clause-ok : goal.returns-in-Ok-make_room-clause-ok
returns-in-Ok-make_room-clause-ok g c =
    places_as g.D.Disk.faults _ _ _ _ c.args.body _ c.in-Ok.ensures.ok
    (places_on g.D.Disk.faults c.args.loader.now c.make_room.new.loader c.put_in.new.loader c.args.pid _ c.args.brief c.args.charge
    (idle c.args.loader.now.core) c.in-Ok-make_room.ensures.ok c.put_in.ensures)

pub returns-in-Err-clause-err : goal.returns-in-Err-clause-err
returns-in-Err-clause-err g c = place_stops g.D.Disk.faults c.args.loader.now c.make_room.new.loader c.args.pid _ c.in-Err.failure c.in-Err.ensures.err

pub returns-in_default-clause-err : goal.returns-in_default-clause-err
returns-in_default-clause-err g c =
    let C = PlaceCause (g.D.Disk.faults c.args.loader.now.disk) (g.D.Disk.faults c.stop.new.loader.disk) c.args.pid (length (g.T.Poolable.encoding c.args.body))
    c.args.loader.now.core.limit in
    rw c.stop.ensures.same (rest_stops g.D.Disk.faults C c.args.loader.now c.stop.new.loader empty_hand _ c.requires.rests tt c.stop.ensures.failed)
