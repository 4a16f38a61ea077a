use Rattle.std.proofs.Common.{arith, ◌∙◌}
use Rattle.naim_loader.proofs.Rows.{added_at, adds_at}
use Rattle.naim_loader.proofs.table.Table.add.Goals as goal

pub invariant_of-self : goal.invariant_of-self
invariant_of-self g c =
    let cap = c.push.ensures.capacity in
    added_at c.self.inside.rows.items c.args.self.now c.push.new.self.items c.self.inside.index.items _ _ c.args.pid c.len-slot.result c.args.entry
    c.self.invariant c.self.view_is (omega arith) c.requires.below c.requires.absent
    (rw c.unwrap.ensures at c.push.ensures.items) (c.len-slot.ensures ∙ c.self.inside.rows.ok.0)

pub returns : goal.returns
returns g c = adds_at c.self.inside.rows.items c.args.self.now c.push.new.self.items c.args.pid c.args.entry _ _ c.self.invariant c.self.view_is
    c.requires.absent (rw c.unwrap.ensures at c.push.ensures.items)
