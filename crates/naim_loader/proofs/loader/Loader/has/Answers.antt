use Rattle.std.proofs.Common.{None, Some, refl, sym, ap}
use Rattle.std.specs.Prelude.{is_some}
use Rattle.naim_loader.proofs.Views.{kept_row}
use Rattle.naim_loader.proofs.loader.Loader.has.Goals as goal

pub returns-in-Some : goal.returns-in-Some
returns-in-Some g c = sym (ap is_some (kept_row c.args.self.now _ c.self.inside.table c.args.pid (Some c.in-Some.field-0.now) c.self.view_is refl
    c.in-Some.ensures))

pub returns-in-None : goal.returns-in-None
returns-in-None g c = sym (ap is_some (kept_row c.args.self.now _ c.self.inside.table c.args.pid None c.self.view_is refl c.in-None.ensures))
