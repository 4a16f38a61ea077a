use Rattle.std.proofs.Common.{nat_eq, subst}
use Rattle.std.specs.List.{IsDistinct}
use Rattle.std.specs.Map.{keys_of}
use Rattle.naim_loader.specs.Paged.{contents}
use Rattle.naim_loader.proofs.Contents.{whole_stands}
use Rattle.naim_loader.proofs.Views.{marked_view}
use Rattle.naim_loader.proofs.loader.Loader.mark.Goals as goal

pub returns-clause-marked : goal.returns-clause-marked
returns-clause-marked g c = marked_view c.args.self.now _ _ c.self.view_is c.after_entries.ensures

pub returns-clause-differ : goal.returns-clause-differ
returns-clause-differ g c = subst (λ z. IsDistinct nat_eq (keys_of (contents z))) c.self.view_is
    (whole_stands _ _ _ _ _ _ c.self.inside.limit c.self.inside.core c.self.inside.table c.self.inside.disk _ c.self.inside.counters c.self.inside.trail.lists
    c.self.invariant).differ
