use Rattle.std.proofs.Common.{arith, ◌++◌, Some, sym, ap, subst, ◌∙◌}
use Rattle.naim_core.specs.State.{pool_at}
use Rattle.naim_core.specs.Steps.{in_place}
use Rattle.naim_core.specs.State.{is_free}
use Rattle.naim_core.specs.Links.{IsRing, held}
use Rattle.naim_core.specs.Table.{is_resident}
use Rattle.naim_core.proofs.Residents.{resident_found, in_ring, slot_fits, rings_set}
use Rattle.naim_core.proofs.Places.{set_pool, slot_found}
use Rattle.naim_core.proofs.Tables.{found_in, under_there, held_there, table_set}
use Rattle.naim_core.proofs.table.Table.put.Goals as goal

pub changed-under-requires-clause-there : goal.changed-under-requires-clause-there
changed-under-requires-clause-there c =
    let k = under_there c.unwrap-slot.result.0 c.args.pid c.unwrap-slot.result.1 _ _ _ _ _ _ c.self.invariant.0
    (found_in c.self.inside.order.entries c.args.pid c.found_at.result c.unwrap-slot.result c.found_at.ensures c.unwrap-slot.ensures) in omega arith

pub held_part-requires : goal.held_part-requires
held_part-requires c =
    let k = held_there c.unwrap-slot.result.0 c.args.pid c.unwrap-slot.result.1 _ _ _ _ _ _ c.self.invariant.0
    (found_in c.self.inside.order.entries c.args.pid c.found_at.result c.unwrap-slot.result c.found_at.ensures c.unwrap-slot.ensures) in let h =
    c.self.invariant.0.held_fits in omega arith

pub changed-held-requires-clause-there : goal.changed-held-requires-clause-there
changed-held-requires-clause-there c =
    let k = held_there c.unwrap-slot.result.0 c.args.pid c.unwrap-slot.result.1 _ _ _ _ _ _ c.self.invariant.0
    (found_in c.self.inside.order.entries c.args.pid c.found_at.result c.unwrap-slot.result c.found_at.ensures c.unwrap-slot.ensures) in omega arith

pub leave-requires : goal.leave-requires
leave-requires c = rw c.is_free.ensures (in_ring is_free c.self.inside.order.entries c.unwrap-slot.result.0 (Some (c.args.pid, c.unwrap-slot.result.1))
    c.self.inside.free.behind.items c.self.inside.free.before.items c.self.invariant.0.slots
    (found_in c.self.inside.order.entries c.args.pid c.found_at.result c.unwrap-slot.result c.found_at.ensures c.unwrap-slot.ensures) c.self.invariant.1.free_is
    (slot_fits c.self.inside.order.entries c.self.inside.free c.self.inside.resident c.unwrap-slot.result.0 (Some (c.args.pid, c.unwrap-slot.result.1))
    c.self.invariant.1 (found_in c.self.inside.order.entries c.args.pid c.found_at.result c.unwrap-slot.result c.found_at.ensures c.unwrap-slot.ensures)))

pub keep-requires-clause-was : goal.keep-requires-clause-was
keep-requires-clause-was c =
    let found = ap (λ ps. pool_at ps c.args.pid) (sym c.self.view_is) ∙ slot_found c.unwrap-slot.result.0 c.args.pid c.unwrap-slot.result.1
    c.self.inside.order.entries c.self.invariant.0.slots.pids_differ
    (found_in c.self.inside.order.entries c.args.pid c.found_at.result c.unwrap-slot.result c.found_at.ensures c.unwrap-slot.ensures) in
    λ h. c.is_resident.ensures ∙ resident_found (pool_at c.args.self.now c.args.pid) c.unwrap-slot.result.1 found
    (c.requires.resident (sym c.is_resident-2.ensures ∙ h))

pub keep-requires-clause-ring : goal.keep-requires-clause-ring
keep-requires-clause-ring c = rw c.is_resident.ensures (in_ring is_resident c.self.inside.order.entries c.unwrap-slot.result.0
    (Some (c.args.pid, c.unwrap-slot.result.1)) c.self.inside.resident.behind.items c.self.inside.resident.before.items c.self.invariant.0.slots
    (found_in c.self.inside.order.entries c.args.pid c.found_at.result c.unwrap-slot.result c.found_at.ensures c.unwrap-slot.ensures)
    c.self.invariant.1.resident_is (slot_fits c.self.inside.order.entries c.self.inside.free c.self.inside.resident c.unwrap-slot.result.0
    (Some (c.args.pid, c.unwrap-slot.result.1)) c.self.invariant.1
    (found_in c.self.inside.order.entries c.args.pid c.found_at.result c.unwrap-slot.result c.found_at.ensures c.unwrap-slot.ensures)))

pub invariant_of-self : goal.invariant_of-self
invariant_of-self c =
    let left = rw c.is_free.ensures at c.leave.ensures in
    let kept = rw (c.is_resident.ensures, c.is_resident-2.ensures) at c.keep.ensures in (
      table_set c.unwrap-slot.result.0 c.args.pid c.unwrap-slot.result.1 c.args.pool _ _ _ _ _ _ _ _ c.self.invariant.0 c.changed-held.type_inv
          (found_in c.self.inside.order.entries c.args.pid c.found_at.result c.unwrap-slot.result c.found_at.ensures c.unwrap-slot.ensures) (omega arith)
          (omega arith),
      rings_set c.self.inside.order.entries c.unwrap-slot.result.0 (Some (c.args.pid, c.unwrap-slot.result.1)) (Some (c.args.pid, c.args.pool))
          c.self.inside.free c.self.inside.resident c.leave.new.self c.keep.new.self c.self.invariant.0.slots
          (found_in c.self.inside.order.entries c.args.pid c.found_at.result c.unwrap-slot.result c.found_at.ensures c.unwrap-slot.ensures) c.self.invariant.1
          (λ a. subst (λ b. IsRing c.leave.new.self.behind.items c.leave.new.self.before.items (a.newer ++ held b c.unwrap-slot.result.0 a.older))
          (sym c.requires.pinned) (left a))
          kept,
    )

pub returns : goal.returns
returns c = set_pool c.unwrap-slot.result.0 c.args.pid c.unwrap-slot.result.1 c.args.pool c.self.inside.order.entries c.self.invariant.0.slots.pids_differ
    (found_in c.self.inside.order.entries c.args.pid c.found_at.result c.unwrap-slot.result c.found_at.ensures c.unwrap-slot.ensures) ∙ ap
    (in_place c.args.pid c.args.pool) c.self.view_is
