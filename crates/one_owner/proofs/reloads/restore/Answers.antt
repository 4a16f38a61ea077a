use Rattle.one_owner.proofs.Hands.{some_worker}
use Rattle.one_owner.proofs.Restoring.{fetch_places, fetch_stops, fetched, fetching}
use Rattle.one_owner.proofs.reloads.restore.Goals as goal

pub fetch-requires : goal.fetch-requires
fetch-requires g c = fetch_places _ _ _ _ _ _ g.D.Disk.faults c.args.mode c.args.loader.now c.args.pid c.args.filed c.args.charge c.args.disk c.requires.reload

pub read_back-requires-clause-underway : goal.read_back-requires-clause-underway
read_back-requires-clause-underway g c =
    (fetching _ _ _ _ _ _ g.D.Disk.faults c.args.mode c.args.loader.now c.args.pid c.args.filed c.args.charge c.args.disk c.fetch.new.d c.fetch.result
    c.requires.underway c.requires.reload c.fetch.ensures.later c.fetch.ensures.kept_reach c.fetch.ensures.places).underway

pub read_back-requires-clause-reload : goal.read_back-requires-clause-reload
read_back-requires-clause-reload g c =
    (fetching _ _ _ _ _ _ g.D.Disk.faults c.args.mode c.args.loader.now c.args.pid c.args.filed c.args.charge c.args.disk c.fetch.new.d c.fetch.result
    c.requires.underway c.requires.reload c.fetch.ensures.later c.fetch.ensures.kept_reach c.fetch.ensures.places).reload

pub read_back-requires-clause-fetched : goal.read_back-requires-clause-fetched
read_back-requires-clause-fetched g c =
    fetched _ _ _ _ _ _ g.D.Disk.faults c.args.mode c.args.loader.now c.args.pid c.args.filed c.args.charge c.args.disk c.in-Ok.bytes
    c.requires.underway c.requires.reload c.in-Ok.ensures.length c.in-Ok.ensures.digest c.in-Ok.ensures.filed

pub stop-requires-clause-worker : goal.stop-requires-clause-worker
stop-requires-clause-worker g c = some_worker c.args.loader.now.core _ c.requires.underway.alone

pub stop-requires-clause-disk : goal.stop-requires-clause-disk
stop-requires-clause-disk g c =
    (fetching _ _ _ _ _ _ g.D.Disk.faults c.args.mode c.args.loader.now c.args.pid c.args.filed c.args.charge c.args.disk c.fetch.new.d c.fetch.result
    c.requires.underway c.requires.reload c.fetch.ensures.later c.fetch.ensures.kept_reach c.fetch.ensures.places).underway.back

pub returns-in-Ok-clause-ok : goal.returns-in-Ok-clause-ok
returns-in-Ok-clause-ok g c = c.read_back.ensures.ok

pub returns-in-Ok-clause-err : goal.returns-in-Ok-clause-err
returns-in-Ok-clause-err g c = c.read_back.ensures.err

pub returns-in-Err-clause-err : goal.returns-in-Err-clause-err
returns-in-Err-clause-err g c =
    rw c.stop.ensures.same
    (fetch_stops _ _ _ _ _ _ g.D.Disk.faults c.args.mode c.args.loader.now c.stop.new.loader c.args.pid c.args.filed c.args.charge c.args.disk
    c.fetch.new.d c.in-Err.fault c.told_failure-failure.result c.requires.underway c.requires.reload
    c.fetch.ensures.later c.in-Err.ensures.fault c.in-Err.ensures.filed c.told_failure-failure.ensures c.stop.ensures.failed)
