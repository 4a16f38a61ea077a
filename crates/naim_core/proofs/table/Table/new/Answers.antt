use Rattle.std.proofs.Common.{None, nat_eq, sym, ap, arith, rules, ◌++◌, ◌∷◌, [], ◌∙◌}
use Rattle.naim_core.specs.Table.{pools_in}
use Rattle.lru.specs.LruCache.{put_entries}
use Rattle.naim_core.proofs.Fresh.{empty_zero, numbers_zero, numbers_next, put_next, fresh_table, fresh_rings, fresh_pools}
use Rattle.naim_core.proofs.table.Table.new.Goals as goal

pub loop-slot-init : goal.loop-slot-init
loop-slot-init c = let a = c.in_ok-order.ensures in let u = c.unwrap-slots.ensures in let n = c.new.ensures in
    (ap (λ o. o.cap) a ∙ (search rules), ap (λ o. o.entries) a ∙ sym empty_zero, c.in_ok-spare.ensures.items ∙ sym numbers_zero, c.in_ok-spare.ensures.capacity)

pub loop-slot-preserved : goal.loop-slot-preserved
loop-slot-preserved c =
    let a = c.in_ok-put.ensures.entries in let i = c.loop-slot.invariant in let d = c.in_ok-push.ensures.capacity in
    let below = c.loop-slot-test.true in (
      ap (λ o. o.cap) a ∙ i.0,
      ap (λ o. o.entries) a ∙ ap (λ es. put_entries nat_eq (record { entries = es; cap = c.loop-slot.order.cap }) c.loop-slot.slot None) i.1 ∙ put_next
          c.loop-slot.slot c.loop-slot.order.cap (let e = i.0 in omega arith),
      c.in_ok-push.ensures.items ∙ ap (λ xs. xs ++ c.loop-slot.slot ∷ []) i.2 ∙ sym (numbers_next c.loop-slot.slot),
      omega arith,
    )

pub invariant_of-result : goal.invariant_of-result
invariant_of-result c =
    let a = c.loop-slot-test.false in let e = c.loop-slot.auto.slot-end in
    let v = c.in_ok-index.ensures.items_if_clones_equal (search rules) in
    rw (c.loop-slot.invariant.1, v, c.loop-slot.invariant.2) (
      fresh_table c.loop-slot.slot 131072 _ (omega arith) c.loop-slot.invariant.3,
      fresh_rings
          c.loop-slot.slot (omega arith) c.in_ok-free.free c.in_ok-resident.resident c.in_ok-free.ensures c.in_ok-resident.ensures,
    )

pub returns : goal.returns
returns c = ap pools_in c.loop-slot.invariant.1 ∙ fresh_pools c.loop-slot.slot
