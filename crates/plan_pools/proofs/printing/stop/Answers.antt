use Rattle.plan_pools.proofs.Frames.{stops_memory}
use Rattle.plan_pools.proofs.printing.stop.Goals as goal

pub returns-clause-pools : goal.returns-clause-pools
returns-clause-pools g c =
    stops_memory g.D.Disk.reach g.D.Disk.honest g.D.Disk.faults c.args.loader.now c.fail.new.self c.requires.running c.requires.home c.fail.ensures.failed
