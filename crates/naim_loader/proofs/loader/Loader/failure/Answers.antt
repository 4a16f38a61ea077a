use Rattle.std.proofs.Common.{subst}
use Rattle.naim_loader.specs.Contents.{StandsFor}
use Rattle.naim_loader.proofs.Contents.{whole_stands}
use Rattle.naim_loader.proofs.loader.Loader.failure.Goals as goal

pub returns-clause-stands : goal.returns-clause-stands
returns-clause-stands g c = subst (StandsFor g.T.Poolable.charge_of g.T.Poolable.encoding g.T.Poolable.is_value g.D.Disk.bytes g.D.Disk.reach g.D.Disk.honest)
    c.self.view_is
    (whole_stands _ _ _ _ _ _ c.self.inside.limit c.self.inside.core c.self.inside.table c.self.inside.disk _ c.self.inside.counters c.self.inside.trail.lists
    c.self.invariant)
