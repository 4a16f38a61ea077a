use Rattle.std.proofs.Common.{◌<◌, length, Some, refl, sym, ap, subst, ◌∙◌}
use Rattle.std.proofs.Common.{get_or}
use Rattle.naim_loader.proofs.Rows.{row_found}
use Rattle.naim_loader.proofs.table.Table.get.Goals as goal

pub returns : goal.returns
returns g c =
    let l = c.in_ok-get.ensures.lookup in
    let e = c.deref.ensures.value in
    row_found c.self.inside.rows.items c.args.self.now c.self.inside.index.items _ c.args.pid c.in_ok-slot.slot (Some c.in_ok-slot.slot) c.index.result.now
    c.self.invariant c.self.view_is
    (subst (λ z. c.args.pid < length z) e l.3.0) (sym c.in_ok-slot.was ∙ l.3.1 (Some c.in_ok-slot.slot) ∙ ap (λ z. get_or z c.args.pid (Some c.in_ok-slot.slot))
    e) refl c.index.ensures
