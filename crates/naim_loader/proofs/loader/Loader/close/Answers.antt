use Rattle.std.proofs.Common.{ap, ◌∙◌}
use Rattle.naim_loader.proofs.Contents.{ended_good, ended_rest, whole_stands}
use Rattle.naim_loader.proofs.Views.{ended_view}
use Rattle.naim_loader.proofs.loader.Loader.close.Goals as goal

pub home_disk-requires : goal.home_disk-requires
home_disk-requires g c = ap (λ z. z.home) c.self.view_is ∙ c.requires.home

pub returns-clause-disk : goal.returns-clause-disk
returns-clause-disk g c = c.home_disk.ensures ∙ ap (λ z. z.disk) c.self.view_is

pub returns-clause-trail : goal.returns-clause-trail
returns-clause-trail g c = ended_view c.args.self _ c.self.inside.limit _ c.self.view_is c.self.invariant.limit_is c.of.ensures

pub returns-clause-honest : goal.returns-clause-honest
returns-clause-honest g c = ended_good _ _ _ _ _ _ c.args.self _ _ c.self.view_is
    (whole_stands _ _ _ _ _ _ c.self.inside.limit c.self.inside.core c.self.inside.table c.self.inside.disk _ c.self.inside.counters c.self.inside.trail.lists
    c.self.invariant) c.home_disk.ensures

pub returns-clause-rest : goal.returns-clause-rest
returns-clause-rest g c = ended_rest _ _ _ _ _ _ c.args.self _ c.self.view_is
    (whole_stands _ _ _ _ _ _ c.self.inside.limit c.self.inside.core c.self.inside.table c.self.inside.disk _ c.self.inside.counters c.self.inside.trail.lists
    c.self.invariant) g.met.D.Disk.told
