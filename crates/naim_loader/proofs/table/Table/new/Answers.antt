use Rattle.std.proofs.Common.{arith, rules, refl}
use Rattle.naim_loader.proofs.Rows.{fresh_table}
use Rattle.naim_loader.proofs.table.Table.new.Goals as goal

pub invariant_of-result : goal.invariant_of-result
invariant_of-result g c = let v = c.in_ok-index.ensures.items_if_clones_equal (search rules) in rw (c.in_ok-rows.ensures.items, v)
    (fresh_table 131072 _ refl (let k = c.in_ok-rows.ensures.capacity in omega arith))
