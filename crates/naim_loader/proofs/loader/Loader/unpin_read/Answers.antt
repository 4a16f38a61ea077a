use Rattle.std.proofs.Common.{refl, inl}
use Rattle.naim_core.specs.State.{pool_at}
use Rattle.naim_loader.proofs.Unpins.{last_told}
use Rattle.naim_loader.proofs.loader.Loader.unpin_read.Goals as goal

pub leave-requires-clause-pool : goal.leave-requires-clause-pool
leave-requires-clause-pool g c = (c.requires.pool.0, c.requires.pool.1, c.requires.pool.2, inl refl)

pub leave_packed-requires-clause-pool : goal.leave_packed-requires-clause-pool
leave_packed-requires-clause-pool g c = (
  c.requires.pool.0,
  c.requires.pool.1,
  c.requires.pool.2,
  last_told (pool_at c.args.self.now.core.pools c.args.pin.pid)
      c.requires.pool.0 c.told-readers.result c.requires.pool.1 c.told-readers.ensures.view c.requires.pool.2 c.if-readers-eq1.true,
)
