use Rattle.std.proofs.Common.{ap, arith, length, refl, subst, sym, ◌+◌, ◌≡◌, ◌≤◌, ◌∙◌}
use Rattle.std.specs.Arc.{arc_value}
use Rattle.naim_core.specs.declared.event.Form.TheVariants as form
use Rattle.one_owner.specs.Alone.{idle, writing}
use Rattle.one_owner.specs.Causes.{PlaceCause}
use Rattle.one_owner.proofs.Frames.{rest_stops}
use Rattle.one_owner.proofs.Hands.{idle_works, some_worker}
use Rattle.one_owner.proofs.Placing.{has_room, place_stops}
use Rattle.one_owner.proofs.Writing.{rewrites_on, stated_as, stated_still, writes_still}
use Rattle.one_owner.proofs.writes.put_packed.Goals as goal

pub stop-requires-clause-worker : goal.stop-requires-clause-worker
stop-requires-clause-worker g c = some_worker c.args.loader.now.core (writing c.args.pin.pid) c.requires.writes.alone

pub make_room-requires-clause-idle : goal.make_room-requires-clause-idle
make_room-requires-clause-idle g c = idle_works c.args.loader.now (writing c.args.pin.pid) refl c.requires.writes

pub make_room-requires-clause-wanted : goal.make_room-requires-clause-wanted
make_room-requires-clause-wanted g c =
    let l : c.len.result ≡ length (g.T.Poolable.encoding (arc_value c.args.body)) = c.len.ensures ∙ c.in-Ok.bytes.ok.0
    ∙ ap length (c.in-Ok.ensures.spelling ∙ ap g.T.Poolable.encoding c.deref.ensures) in
    let s = c.requires.fits in omega arith

pub rewrite-requires-clause-writes : goal.rewrite-requires-clause-writes
rewrite-requires-clause-writes g c =
    writes_still g.D.Disk.faults c.args.loader.now c.make_room.new.loader c.args.pin.pid c.len.result c.requires.writes c.in-Ok-make_room.ensures.ok

pub rewrite-requires-clause-stated : goal.rewrite-requires-clause-stated
rewrite-requires-clause-stated g c =
    let e = sym (c.of-value.ensures ∙ c.deref-2.ensures) in
    stated_as g.D.Disk.faults c.make_room.new.loader c.args.pin.pid _ _ (ap (λ v. g.T.Poolable.charge_of v + length (g.T.Poolable.encoding v)) e)
    (stated_still g.D.Disk.faults c.args.loader.now c.make_room.new.loader c.args.pin.pid _ c.len.result
    (idle c.args.loader.now.core) c.in-Ok-make_room.ensures.ok c.requires.stated)

pub rewrite-requires-clause-draft : goal.rewrite-requires-clause-draft
rewrite-requires-clause-draft g c =
    let e = sym (c.of-value.ensures ∙ c.deref-2.ensures) in (
      subst g.T.Poolable.is_value e c.requires.value,
      c.in-Ok.ensures.spelling ∙ ap g.T.Poolable.encoding (c.deref.ensures ∙ e),
      c.requires.charge ∙ ap g.T.Poolable.charge_of e,
      (let l = ap length (c.in-Ok.ensures.spelling ∙ ap g.T.Poolable.encoding c.deref.ensures) in let f = c.requires.fits in
          let k = c.stands.ensures.small in omega arith),
    )

pub rewrite-requires-clause-value : goal.rewrite-requires-clause-value
rewrite-requires-clause-value g c = subst g.T.Poolable.is_value (sym (c.of-value.ensures ∙ c.deref-2.ensures)) c.requires.value

pub rewrite-requires-clause-fits : goal.rewrite-requires-clause-fits
rewrite-requires-clause-fits g c =
    let e = sym (c.of-value.ensures ∙ c.deref-2.ensures) in
    let l : c.len.result ≡ length (g.T.Poolable.encoding c.of-value.result.value) =
    c.len.ensures ∙ c.in-Ok.bytes.ok.0 ∙ ap length (c.in-Ok.ensures.spelling ∙ ap g.T.Poolable.encoding (c.deref.ensures ∙ e)) in
    has_room g.D.Disk.faults c.args.loader.now c.make_room.new.loader form.Compacted _ _ c.len.result
    (idle c.args.loader.now.core) c.in-Ok-make_room.ensures.ok l
    (subst (λ z. length (g.T.Poolable.encoding z) ≤ c.args.loader.now.core.limit) e c.requires.fits)

pub returns-in-Ok-make_room-clause-ok : goal.returns-in-Ok-make_room-clause-ok
returns-in-Ok-make_room-clause-ok g c =
    rewrites_on g.D.Disk.faults c.args.loader.now c.make_room.new.loader c.rewrite.new.loader c.args.pin.pid _ _ c.args.brief c.len.result
    (idle c.args.loader.now.core) c.in-Ok-make_room.ensures.ok (c.of-value.ensures ∙ c.deref-2.ensures) c.rewrite.ensures

pub returns-clause-err : goal.returns-clause-err
returns-clause-err g c = place_stops g.D.Disk.faults c.args.loader.now c.make_room.new.loader c.args.pin.pid _ c.in-Err.failure c.in-Err.ensures.err

pub returns-in_default-clause-err : goal.returns-in_default-clause-err
returns-in_default-clause-err g c =
    let C = PlaceCause (g.D.Disk.faults c.args.loader.now.disk) (g.D.Disk.faults c.stop.new.loader.disk) c.args.pin.pid
    (length (g.T.Poolable.encoding (arc_value c.args.body))) c.args.loader.now.core.limit in
    rw c.stop.ensures.same
    (rest_stops g.D.Disk.faults C c.args.loader.now c.stop.new.loader (writing c.args.pin.pid) _ c.requires.writes tt c.stop.ensures.failed)
