use Rattle.std.proofs.Common.{arith, ◌≡◌, ◌-◌, ◌∷◌, nat_eq, Some, None, sym, ap, subst, ◌∙◌}
use Rattle.std.specs.Map.{remove_entry}
use Rattle.naim_core.specs.Table.{pools_in}
use Rattle.std.specs.Vec.{vec_capacity}
use Rattle.naim_core.specs.State.{is_free}
use Rattle.naim_core.specs.Table.{AreRings, is_resident}
use Rattle.naim_core.proofs.Residents.{in_ring, slot_fits, rings_front}
use Rattle.naim_core.proofs.Places.{put_front, removed_pool}
use Rattle.naim_core.proofs.Tables.{found_in, under_there, held_there, table_removed}
use Rattle.naim_core.proofs.table.Table.remove.Goals as goal

pub overflow_sub-under : goal.overflow_sub-under
overflow_sub-under c =
    let k = under_there c.unwrap-slot.result.0 c.args.pid c.unwrap-slot.result.1 _ _ _ _ _ _ c.self.invariant.0
    (found_in c.self.inside.order.entries c.args.pid c.found_at.result c.unwrap-slot.result c.found_at.ensures c.unwrap-slot.ensures) in omega arith

pub held_part-requires : goal.held_part-requires
held_part-requires c =
    let k = held_there c.unwrap-slot.result.0 c.args.pid c.unwrap-slot.result.1 _ _ _ _ _ _ c.self.invariant.0
    (found_in c.self.inside.order.entries c.args.pid c.found_at.result c.unwrap-slot.result c.found_at.ensures c.unwrap-slot.ensures) in let h =
    c.self.invariant.0.held_fits in omega arith

pub overflow_sub-held : goal.overflow_sub-held
overflow_sub-held c =
    let k = held_there c.unwrap-slot.result.0 c.args.pid c.unwrap-slot.result.1 _ _ _ _ _ _ c.self.invariant.0
    (found_in c.self.inside.order.entries c.args.pid c.found_at.result c.unwrap-slot.result c.found_at.ensures c.unwrap-slot.ensures) in omega arith

pub leave-requires : goal.leave-requires
leave-requires c = rw c.is_free.ensures (in_ring is_free c.self.inside.order.entries c.unwrap-slot.result.0 (Some (c.args.pid, c.unwrap-slot.result.1))
    c.self.inside.free.behind.items c.self.inside.free.before.items c.self.invariant.0.slots
    (found_in c.self.inside.order.entries c.args.pid c.found_at.result c.unwrap-slot.result c.found_at.ensures c.unwrap-slot.ensures) c.self.invariant.1.free_is
    (slot_fits c.self.inside.order.entries c.self.inside.free c.self.inside.resident c.unwrap-slot.result.0 (Some (c.args.pid, c.unwrap-slot.result.1))
    c.self.invariant.1 (found_in c.self.inside.order.entries c.args.pid c.found_at.result c.unwrap-slot.result c.found_at.ensures c.unwrap-slot.ensures)))

pub leave-requires-2 : goal.leave-requires-2
leave-requires-2 c = rw c.is_resident.ensures (in_ring is_resident c.self.inside.order.entries c.unwrap-slot.result.0
    (Some (c.args.pid, c.unwrap-slot.result.1)) c.self.inside.resident.behind.items c.self.inside.resident.before.items c.self.invariant.0.slots
    (found_in c.self.inside.order.entries c.args.pid c.found_at.result c.unwrap-slot.result c.found_at.ensures c.unwrap-slot.ensures)
    c.self.invariant.1.resident_is (slot_fits c.self.inside.order.entries c.self.inside.free c.self.inside.resident c.unwrap-slot.result.0
    (Some (c.args.pid, c.unwrap-slot.result.1)) c.self.invariant.1
    (found_in c.self.inside.order.entries c.args.pid c.found_at.result c.unwrap-slot.result c.found_at.ensures c.unwrap-slot.ensures)))

pub invariant_of-self : goal.invariant_of-self
invariant_of-self c =
    let at = (found_in c.self.inside.order.entries c.args.pid c.found_at.result c.unwrap-slot.result c.found_at.ensures c.unwrap-slot.ensures) in
    let now = rw c.unwrap-2.ensures at c.put.ensures.entries in
    let is : c.put.new.self.entries ≡ (c.unwrap-slot.result.0, None) ∷ remove_entry (nat_eq c.unwrap-slot.result.0) c.self.inside.order.entries = ap
    (λ o. o.entries) now ∙ put_front c.unwrap-slot.result.0 (Some (c.args.pid, c.unwrap-slot.result.1)) None c.self.inside.order.entries
    c.self.inside.order.cap at in
    let items = rw c.unwrap.ensures at c.push.ensures.items in
    let cap = c.push.ensures.capacity in let room = c.self.invariant.0.room_fits in
    let u = under_there c.unwrap-slot.result.0 c.args.pid c.unwrap-slot.result.1 _ _ _ _ _ _ c.self.invariant.0 at in
    let h = held_there c.unwrap-slot.result.0 c.args.pid c.unwrap-slot.result.1 _ _ _ _ _ _ c.self.invariant.0 at in
    let new = table_removed c.unwrap-slot.result.0 c.args.pid c.unwrap-slot.result.1 c.self.inside.order.entries c.self.inside.index.items
    c.self.inside.spare.items (vec_capacity c.self.inside.spare) (vec_capacity c.push.new.self) c.self.inside.under c.self.inside.held
    (c.self.inside.under - c.under_part.result) (c.self.inside.held - c.held_part.result) c.self.invariant.0 (omega arith) at (omega arith) (omega arith) in
    let free = rw c.is_free.ensures at c.leave.ensures in
    let resident = rw c.is_resident.ensures at c.leave-2.ensures in (
      rw (is, c.note.ensures, items) new,
      subst (λ es. AreRings es c.leave.new.self c.leave-2.new.self) (sym is)
          (rings_front c.self.inside.order.entries c.unwrap-slot.result.0 (Some (c.args.pid, c.unwrap-slot.result.1)) None c.self.inside.free
          c.self.inside.resident c.leave.new.self c.leave-2.new.self c.self.invariant.0.slots at c.self.invariant.1 free resident),
    )

pub returns : goal.returns
returns c =
    let at = (found_in c.self.inside.order.entries c.args.pid c.found_at.result c.unwrap-slot.result c.found_at.ensures c.unwrap-slot.ensures) in
    let now = rw c.unwrap-2.ensures at c.put.ensures.entries in
    let is : c.put.new.self.entries ≡ (c.unwrap-slot.result.0, None) ∷ remove_entry (nat_eq c.unwrap-slot.result.0) c.self.inside.order.entries = ap
    (λ o. o.entries) now ∙ put_front c.unwrap-slot.result.0 (Some (c.args.pid, c.unwrap-slot.result.1)) None c.self.inside.order.entries
    c.self.inside.order.cap at in
    ap pools_in is ∙ removed_pool c.unwrap-slot.result.0 c.args.pid c.unwrap-slot.result.1 c.self.inside.order.entries c.self.invariant.0.slots.pids_differ at ∙
    ap (remove_entry (nat_eq c.args.pid)) c.self.view_is
