use Rattle.one_owner.specs.Alone.{writing}
use Rattle.one_owner.proofs.Hands.{some_worker}
use Rattle.one_owner.proofs.writes.put_back.Goals as goal

pub stop-requires-clause-worker : goal.stop-requires-clause-worker
stop-requires-clause-worker g c = some_worker c.args.loader.now.core (writing c.args.pin.pid) c.requires.writes.alone
