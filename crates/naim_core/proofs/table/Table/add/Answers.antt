use Rattle.std.proofs.Common.{arith, ◌≡◌, ◌+◌, ◌∷◌, ◌<◌, ◌^◌, nat_eq, Some, None, sym, ap, subst, ◌∙◌}
use Rattle.std.specs.Map.{remove_entry}
use Rattle.naim_core.specs.Charges.{held_part, held_sum}
use Rattle.naim_core.specs.Table.{IsTable, pools_in}
use Rattle.std.specs.Vec.{vec_capacity}
use Rattle.naim_core.specs.State.{pool_at}
use Rattle.naim_core.specs.State.{is_free}
use Rattle.naim_core.specs.Table.{AreRings, is_resident}
use Rattle.naim_core.proofs.Residents.{in_ring, slot_fits, rings_front}
use Rattle.naim_core.proofs.Places.{put_front, removed_empty}
use Rattle.naim_core.proofs.Tables.{spare_next, table_added}
use Rattle.naim_core.proofs.table.Table.add.Goals as goal

pub renew-requires : goal.renew-requires
renew-requires c =
    let items = rw c.unwrap-slot.ensures at c.pop.ensures.items in
    let t = subst (λ sp. IsTable c.self.inside.order.entries c.self.inside.index.items sp (vec_capacity c.self.inside.spare) c.self.inside.under
    c.self.inside.held) items c.self.invariant.0 in
    let at = spare_next c.unwrap-slot.result c.args.pid _ _ c.pop.new.self.items _ _ _ t in
    in_ring is_free c.self.inside.order.entries c.unwrap-slot.result None c.self.inside.free.behind.items c.self.inside.free.before.items
    c.self.invariant.0.slots at c.self.invariant.1.free_is (slot_fits c.self.inside.order.entries c.self.inside.free c.self.inside.resident
    c.unwrap-slot.result None c.self.invariant.1 at)

pub renew-requires-2 : goal.renew-requires-2
renew-requires-2 c =
    let items = rw c.unwrap-slot.ensures at c.pop.ensures.items in
    let t = subst (λ sp. IsTable c.self.inside.order.entries c.self.inside.index.items sp (vec_capacity c.self.inside.spare) c.self.inside.under
    c.self.inside.held) items c.self.invariant.0 in
    let at = spare_next c.unwrap-slot.result c.args.pid _ _ c.pop.new.self.items _ _ _ t in
    in_ring is_resident c.self.inside.order.entries c.unwrap-slot.result None c.self.inside.resident.behind.items c.self.inside.resident.before.items
    c.self.invariant.0.slots at c.self.invariant.1.resident_is (slot_fits c.self.inside.order.entries c.self.inside.free c.self.inside.resident
    c.unwrap-slot.result None c.self.invariant.1 at)

pub invariant_of-self : goal.invariant_of-self
invariant_of-self c =
    let items = rw c.unwrap-slot.ensures at c.pop.ensures.items in
    let t = subst (λ sp. IsTable c.self.inside.order.entries c.self.inside.index.items sp (vec_capacity c.self.inside.spare) c.self.inside.under
    c.self.inside.held) items c.self.invariant.0 in
    let at = spare_next c.unwrap-slot.result c.args.pid _ _ c.pop.new.self.items _ _ _ t in
    let now = rw c.unwrap.ensures at c.put.ensures.entries in
    let is : c.put.new.self.entries ≡ (c.unwrap-slot.result, Some (c.args.pid, c.args.pool)) ∷ remove_entry (nat_eq c.unwrap-slot.result)
    c.self.inside.order.entries = ap (λ o. o.entries) now ∙ put_front c.unwrap-slot.result None (Some (c.args.pid, c.args.pool)) c.self.inside.order.entries
    c.self.inside.order.cap at in
    let cap = c.pop.ensures.capacity in let room = c.self.invariant.0.room_fits in let u = c.under_part.ensures in let h = c.held_part.ensures in
    let fits : c.self.inside.held + held_part c.args.pool < 2 ^ 64 =
    (let v = c.requires.held_fits in let k = c.self.invariant.0.held_is ∙ ap held_sum c.self.view_is in omega arith) in
    let new = table_added c.unwrap-slot.result c.args.pid c.args.pool c.self.inside.order.entries c.self.inside.index.items c.pop.new.self.items
    (vec_capacity c.self.inside.spare) (vec_capacity c.pop.new.self) c.self.inside.under c.self.inside.held t (omega arith) fits
    (ap (λ ps. pool_at ps c.args.pid) c.self.view_is ∙ c.requires.absent) in
    let free = rw c.is_free.ensures at c.renew.ensures in
    let resident = rw c.is_resident.ensures at c.renew-2.ensures in (
      rw (is, c.note.ensures, u, h) new,
      subst (λ es. AreRings es c.renew.new.self c.renew-2.new.self) (sym is)
          (rings_front c.self.inside.order.entries c.unwrap-slot.result None (Some (c.args.pid, c.args.pool)) c.self.inside.free c.self.inside.resident
          c.renew.new.self c.renew-2.new.self c.self.invariant.0.slots at c.self.invariant.1 free resident),
    )

pub returns : goal.returns
returns c =
    let items = rw c.unwrap-slot.ensures at c.pop.ensures.items in
    let t = subst (λ sp. IsTable c.self.inside.order.entries c.self.inside.index.items sp (vec_capacity c.self.inside.spare) c.self.inside.under
    c.self.inside.held) items c.self.invariant.0 in
    let at = spare_next c.unwrap-slot.result c.args.pid _ _ c.pop.new.self.items _ _ _ t in
    let now = rw c.unwrap.ensures at c.put.ensures.entries in
    let is : c.put.new.self.entries ≡ (c.unwrap-slot.result, Some (c.args.pid, c.args.pool)) ∷ remove_entry (nat_eq c.unwrap-slot.result)
    c.self.inside.order.entries = ap (λ o. o.entries) now ∙ put_front c.unwrap-slot.result None (Some (c.args.pid, c.args.pool)) c.self.inside.order.entries
    c.self.inside.order.cap at in
    ap pools_in is ∙ ap (λ ps. (c.args.pid, c.args.pool) ∷ ps) (removed_empty c.unwrap-slot.result c.self.inside.order.entries at ∙ c.self.view_is)
