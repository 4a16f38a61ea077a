use Rattle.std.proofs.Common.{ap, ◌∙◌}
use Rattle.naim_core.specs.State.{pool_at}
use Rattle.naim_core.proofs.Tables.{found_pool}
use Rattle.naim_core.proofs.table.Table.get.Goals as goal

pub returns : goal.returns
returns c =
    let e = found_pool c.self.inside.order.entries c.args.pid c.found_at.result c.self.invariant.0.slots c.found_at.ensures in
    let k = rw c.in_ok-pool.was at e in k ∙ ap (λ ps. pool_at ps c.args.pid) c.self.view_is
