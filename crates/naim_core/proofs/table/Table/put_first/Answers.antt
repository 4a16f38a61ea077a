use Rattle.std.proofs.Common.{arith, ◌≡◌, ◌∷◌, nat_eq, Some, sym, ap, subst, ◌∙◌}
use Rattle.std.specs.Map.{remove_entry}
use Rattle.naim_core.specs.Table.{IsTable, pools_in}
use Rattle.std.specs.Vec.{vec_capacity}
use Rattle.naim_core.specs.Steps.{front}
use Rattle.naim_core.specs.State.{is_free}
use Rattle.naim_core.specs.Table.{AreRings, is_resident}
use Rattle.naim_core.proofs.Residents.{in_ring, slot_fits, rings_front}
use Rattle.naim_core.proofs.Places.{put_front, removed_pool}
use Rattle.naim_core.proofs.Tables.{found_in, under_there, held_there, table_front}
use Rattle.naim_core.proofs.table.Table.put_first.Goals as goal

pub changed-under-requires-clause-there : goal.changed-under-requires-clause-there
changed-under-requires-clause-there c =
    let k = under_there c.unwrap-slot.result.0 c.args.pid c.unwrap-slot.result.1 _ _ _ _ _ _ c.self.invariant.0
    (found_in c.self.inside.order.entries c.args.pid c.found_at.result c.unwrap-slot.result c.found_at.ensures c.unwrap-slot.ensures) in omega arith

pub held_part-requires : goal.held_part-requires
held_part-requires c =
    let k = held_there c.unwrap-slot.result.0 c.args.pid c.unwrap-slot.result.1 _ _ _ _ _ _ c.self.invariant.0
    (found_in c.self.inside.order.entries c.args.pid c.found_at.result c.unwrap-slot.result c.found_at.ensures c.unwrap-slot.ensures) in let h =
    c.self.invariant.0.held_fits in omega arith

pub changed-held-requires-clause-there : goal.changed-held-requires-clause-there
changed-held-requires-clause-there c =
    let k = held_there c.unwrap-slot.result.0 c.args.pid c.unwrap-slot.result.1 _ _ _ _ _ _ c.self.invariant.0
    (found_in c.self.inside.order.entries c.args.pid c.found_at.result c.unwrap-slot.result c.found_at.ensures c.unwrap-slot.ensures) in omega arith

pub renew-requires : goal.renew-requires
renew-requires c = rw c.is_free.ensures (in_ring is_free c.self.inside.order.entries c.unwrap-slot.result.0 (Some (c.args.pid, c.unwrap-slot.result.1))
    c.self.inside.free.behind.items c.self.inside.free.before.items c.self.invariant.0.slots
    (found_in c.self.inside.order.entries c.args.pid c.found_at.result c.unwrap-slot.result c.found_at.ensures c.unwrap-slot.ensures) c.self.invariant.1.free_is
    (slot_fits c.self.inside.order.entries c.self.inside.free c.self.inside.resident c.unwrap-slot.result.0 (Some (c.args.pid, c.unwrap-slot.result.1))
    c.self.invariant.1 (found_in c.self.inside.order.entries c.args.pid c.found_at.result c.unwrap-slot.result c.found_at.ensures c.unwrap-slot.ensures)))

pub renew-requires-2 : goal.renew-requires-2
renew-requires-2 c = rw c.is_resident.ensures (in_ring is_resident c.self.inside.order.entries c.unwrap-slot.result.0
    (Some (c.args.pid, c.unwrap-slot.result.1)) c.self.inside.resident.behind.items c.self.inside.resident.before.items c.self.invariant.0.slots
    (found_in c.self.inside.order.entries c.args.pid c.found_at.result c.unwrap-slot.result c.found_at.ensures c.unwrap-slot.ensures)
    c.self.invariant.1.resident_is (slot_fits c.self.inside.order.entries c.self.inside.free c.self.inside.resident c.unwrap-slot.result.0
    (Some (c.args.pid, c.unwrap-slot.result.1)) c.self.invariant.1
    (found_in c.self.inside.order.entries c.args.pid c.found_at.result c.unwrap-slot.result c.found_at.ensures c.unwrap-slot.ensures)))

pub invariant_of-self : goal.invariant_of-self
invariant_of-self c =
    let at = (found_in c.self.inside.order.entries c.args.pid c.found_at.result c.unwrap-slot.result c.found_at.ensures c.unwrap-slot.ensures) in
    let now = rw c.unwrap.ensures at c.put.ensures.entries in
    let is : c.put.new.self.entries ≡ (c.unwrap-slot.result.0, Some (c.args.pid, c.args.pool)) ∷ remove_entry (nat_eq c.unwrap-slot.result.0)
    c.self.inside.order.entries = ap (λ o. o.entries) now ∙ put_front c.unwrap-slot.result.0 (Some (c.args.pid, c.unwrap-slot.result.1))
    (Some (c.args.pid, c.args.pool)) c.self.inside.order.entries c.self.inside.order.cap at in
    let free = rw (c.is_free.ensures, c.is_free-2.ensures) at c.renew.ensures in
    let resident = rw (c.is_resident.ensures, c.is_resident-2.ensures) at c.renew-2.ensures in (
      subst (λ es. IsTable es c.self.inside.index.items c.self.inside.spare.items (vec_capacity c.self.inside.spare) c.changed-under.result
          c.changed-held.result) (sym is)
          (table_front c.unwrap-slot.result.0 c.args.pid c.unwrap-slot.result.1 c.args.pool _ _ _ _ _ _ _ _ c.self.invariant.0 c.changed-held.type_inv at
          (omega arith) (omega arith)),
      subst (λ es. AreRings es c.renew.new.self c.renew-2.new.self) (sym is)
          (rings_front c.self.inside.order.entries c.unwrap-slot.result.0 (Some (c.args.pid, c.unwrap-slot.result.1)) (Some (c.args.pid, c.args.pool))
          c.self.inside.free c.self.inside.resident c.renew.new.self c.renew-2.new.self c.self.invariant.0.slots at c.self.invariant.1 free resident),
    )

pub returns : goal.returns
returns c =
    let at = (found_in c.self.inside.order.entries c.args.pid c.found_at.result c.unwrap-slot.result c.found_at.ensures c.unwrap-slot.ensures) in
    let now = rw c.unwrap.ensures at c.put.ensures.entries in
    let is : c.put.new.self.entries ≡ (c.unwrap-slot.result.0, Some (c.args.pid, c.args.pool)) ∷ remove_entry (nat_eq c.unwrap-slot.result.0)
    c.self.inside.order.entries = ap (λ o. o.entries) now ∙ put_front c.unwrap-slot.result.0 (Some (c.args.pid, c.unwrap-slot.result.1))
    (Some (c.args.pid, c.args.pool)) c.self.inside.order.entries c.self.inside.order.cap at in
    ap pools_in is ∙ ap (λ ps. (c.args.pid, c.args.pool) ∷ ps) (removed_pool c.unwrap-slot.result.0 c.args.pid c.unwrap-slot.result.1
    c.self.inside.order.entries c.self.invariant.0.slots.pids_differ at) ∙ ap (front c.args.pid c.args.pool) c.self.view_is
