use Rattle.std.proofs.Common.{ap, ◌∙◌}
use Rattle.std.specs.Prelude.{is_some}
use Rattle.naim_loader.specs.Calls.{disk_of}
use Rattle.naim_loader.proofs.Homes.{comes_good, was_out}
use Rattle.naim_loader.proofs.Wholes.{whole_halted}
use Rattle.naim_loader.proofs.Views.{back_view}
use Rattle.naim_loader.proofs.loader.Loader.take_back.Goals as goal

pub bring_with-requires : goal.bring_with-requires
bring_with-requires g c = was_out g.D.Disk.reach g.D.Disk.honest c.args.self.now _ (disk_of c.args.m) c.self.view_is c.requires.disk

pub invariant_of-self : goal.invariant_of-self
invariant_of-self g c =
    whole_halted _ _ _ _ _ _ c.self.inside.limit c.self.inside.core c.self.inside.table c.self.inside.disk c.bring_with.new.home _ c.self.inside.counters
    c.self.invariant (ap (λ z. is_some z.core.failure) c.self.view_is ∙ c.requires.kept)
    (comes_good g.D.Disk.reach g.D.Disk.honest c.args.self.now _ c.self.inside.limit (disk_of c.args.m) _ c.self.view_is c.self.invariant.limit_is
    c.requires.disk c.self.invariant.good c.bring_with.ensures.disk)

pub returns-clause-back : goal.returns-clause-back
returns-clause-back g c = back_view c.args.self.now _ (disk_of c.args.m) _ _ c.self.view_is c.requires.kept c.bring_with.ensures.disk c.bring_with.ensures.home
