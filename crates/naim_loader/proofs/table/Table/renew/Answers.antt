use Rattle.naim_loader.proofs.Rows.{changed_at, renews_at}
use Rattle.naim_loader.proofs.table.Table.renew.Goals as goal

pub invariant_of-self : goal.invariant_of-self
invariant_of-self g c = changed_at c.self.inside.rows.items c.args.self.now c.self.inside.index.items _ c.args.pid c.unwrap-slot.result c.index.result.now
    c.index_mut-row.result.now c.args.entry c.self.invariant c.self.view_is c.requires c.index.ensures c.unwrap-slot.ensures c.index_mut-row.ensures.value

pub returns : goal.returns
returns g c = renews_at c.self.inside.rows.items c.args.self.now c.self.inside.index.items _ c.args.pid c.unwrap-slot.result c.index.result.now
    c.index_mut-row.result.now c.args.entry c.self.invariant c.self.view_is c.requires c.index.ensures c.unwrap-slot.ensures c.index_mut-row.ensures.value
