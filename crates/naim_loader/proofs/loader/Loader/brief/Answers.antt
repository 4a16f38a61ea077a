use Rattle.std.proofs.Common.{None, Some, refl, ap}
use Rattle.std.specs.Prelude.{option_map}
use Rattle.naim_loader.proofs.Views.{kept_row}
use Rattle.naim_loader.proofs.loader.Loader.brief.Goals as goal

pub returns-in_err-entry : goal.returns-in_err-entry
returns-in_err-entry g c = rw c.from_residual.ensures (ap (option_map (λ k. k.brief))
    (kept_row c.args.self.now _ c.self.inside.table c.args.pid None c.self.view_is refl c.in_err-entry.ensures))

pub returns : goal.returns
returns g c = ap (option_map (λ k. k.brief)) (kept_row c.args.self.now _ c.self.inside.table c.args.pid (Some c.in_ok-entry.entry.now) c.self.view_is refl
    c.in_ok-entry.ensures)
