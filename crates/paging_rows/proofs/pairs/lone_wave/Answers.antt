use Rattle.one_owner.proofs.Taking.{present_pool}
use Rattle.paging_rows.proofs.Waves.{wave_ended, wave_present}
use Rattle.paging_rows.proofs.pairs.lone_wave.Goals as goal

pub begin_wave-requires-clause-present : goal.begin_wave-requires-clause-present
begin_wave-requires-clause-present g c = wave_present c.args.pools.now c.args.pid c.in-Ok.tasks.items c.in-Ok.ensures.items
    (present_pool _ _ _ _ _ _ g.D.Disk.faults c.args.pools.now c.args.pid c.stands.ensures c.requires.present)

pub returns : goal.returns
returns g c = wave_ended c.write_task.new.pools c.end_wave.new.self c.args.pid c.write_task.ensures (c.end_wave.ensures.ends c.write_task.ensures.running)
