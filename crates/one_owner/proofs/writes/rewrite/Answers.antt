use Rattle.std.proofs.Common.{ap}
use Rattle.naim_loader.specs.Drafts.{draft_value}
use Rattle.one_owner.specs.Alone.{writing}
use Rattle.one_owner.proofs.Hands.{hand_is, some_worker}
use Rattle.one_owner.proofs.Writing.{rewritten, write_done, write_kept, written_pool}
use Rattle.one_owner.proofs.writes.rewrite.Goals as goal

pub unpin_write-requires-clause-worker : goal.unpin_write-requires-clause-worker
unpin_write-requires-clause-worker g c = some_worker c.args.loader.now.core (writing c.args.pin.pid) c.requires.writes.alone

pub unpin_write-requires-clause-held : goal.unpin_write-requires-clause-held
unpin_write-requires-clause-held g c = ap (λ h. h.written) (hand_is c.args.loader.now.core (writing c.args.pin.pid) c.requires.writes.alone)

pub unpin_write-requires-clause-pool : goal.unpin_write-requires-clause-pool
unpin_write-requires-clause-pool g c = written_pool c.args.loader.now c.args.pin.pid _ c.requires.stated

pub unreachable-requires : goal.unreachable-requires
unreachable-requires g c =
    let b = g.met.T.Poolable.bounds (draft_value c.args.draft) c.requires.value in
    write_done g.T.Poolable.charge_of g.T.Poolable.encoding g.T.Poolable.is_value g.D.Disk.bytes g.D.Disk.reach g.D.Disk.honest g.D.Disk.faults
    c.args.loader.now c.unpin_write.new.self c.args.pin c.args.draft c.args.brief
    c.in-Ok.put c.requires.writes c.requires.stated b.1 b.2 c.requires.fits c.in-Ok.ensures.answer c.in_default.not-Done

pub unreachable-requires-in-Err : goal.unreachable-requires-in-Err
unreachable-requires-in-Err g c =
    let b = g.met.T.Poolable.bounds (draft_value c.args.draft) c.requires.value in
    write_kept g.T.Poolable.charge_of g.T.Poolable.encoding g.T.Poolable.is_value g.D.Disk.bytes g.D.Disk.reach g.D.Disk.honest g.D.Disk.faults
    c.args.loader.now c.unpin_write.new.self c.args.pin c.args.draft c.args.brief
    c.in-Err.field-0 c.requires.writes c.requires.stated b.1 b.2 c.requires.fits c.in-Err.ensures.answer

pub returns : goal.returns
returns g c =
    rewritten g.T.Poolable.charge_of g.T.Poolable.encoding g.T.Poolable.is_value g.D.Disk.bytes g.D.Disk.reach g.D.Disk.honest g.D.Disk.faults
    c.args.loader.now c.unpin_write.new.self c.args.pin.pid c.args.draft c.args.brief c.requires.writes c.stands.ensures
    c.requires.stated (rw c.in-Done.is at c.in-Ok.ensures.answer)
