use Rattle.std.proofs.Common.{nat_eq, IsSome, sym, subst}
use Rattle.std.specs.Map.{lookup}
use Rattle.naim_loader.proofs.Rows.{changed_at, renews_at, row_found, within_index}
use Rattle.naim_loader.proofs.table.Table.reset.Goals as goal

pub invariant_of-self : goal.invariant_of-self
invariant_of-self g c = changed_at c.self.inside.rows.items c.args.self.now c.self.inside.index.items _ c.args.pid c.unwrap-slot.result c.index.result.now
    c.index_mut-row.result.now _ c.self.invariant c.self.view_is c.requires c.index.ensures c.unwrap-slot.ensures c.index_mut-row.ensures.value

pub returns : goal.returns
returns g c =
    let rows = c.self.inside.rows.items in let index = c.self.inside.index.items in
    let below = within_index rows index _ c.args.pid c.self.invariant (subst (λ z. IsSome (lookup (nat_eq c.args.pid) z)) (sym c.self.view_is) c.requires) in
    record {
      entry = c.index_mut-row.result.now.1;
      at = row_found rows c.args.self.now index _ c.args.pid c.unwrap-slot.result c.index.result.now c.index_mut-row.result.now c.self.invariant c.self.view_is
          below c.index.ensures c.unwrap-slot.ensures c.index_mut-row.ensures.value;
      renews = renews_at rows c.args.self.now index _ c.args.pid c.unwrap-slot.result c.index.result.now c.index_mut-row.result.now _ c.self.invariant
          c.self.view_is c.requires c.index.ensures c.unwrap-slot.ensures c.index_mut-row.ensures.value;
    }
