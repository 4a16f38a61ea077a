use Rattle.std.proofs.Common.{ap, sym, ◌∙◌, arith}
use Rattle.naim_core.specs.State.{is_free, is_compacted, victim}
use Rattle.naim_core.specs.Table.{pools_in, slots_at, is_resident, RingSlots}
use Rattle.naim_core.proofs.Residents.{few_slots, last_found, victim_free, victim_compacted, compacted_stays}
use Rattle.naim_core.proofs.table.Table.victim.Goals as goal

pub last_in-free-requires : goal.last_in-free-requires
last_in-free-requires c = record {
  slots = slots_at is_free c.self.inside.order.entries;
  is = c.self.invariant.1.free_is;
  few = few_slots is_free
      c.self.inside.order.entries (let k = c.self.invariant.0.spares.count in omega arith);
}

pub last_in-requires : goal.last_in-requires
last_in-requires c = record {
  slots = slots_at is_resident c.self.inside.order.entries;
  is = c.self.invariant.1.resident_is;
  few = few_slots is_resident
      c.self.inside.order.entries (let k = c.self.invariant.0.spares.count in omega arith);
}

pub returns-then-is_some : goal.returns-then-is_some
returns-then-is_some c =
    let r : RingSlots c.self.inside.free = record {
      slots = slots_at is_free c.self.inside.order.entries;
      is = c.self.invariant.1.free_is;
      few = few_slots
          is_free c.self.inside.order.entries (let k = c.self.invariant.0.spares.count in omega arith);
    } in
    let f = c.last_in-free.ensures r ∙ last_found is_free is_free c.self.inside.order.entries (λ s h. h) c.self.invariant.0.slots in
    victim_free (pools_in c.self.inside.order.entries) c.last_in-free.result f (sym c.is_some.ensures ∙ c.if-is_some.true) ∙ ap victim c.self.view_is

pub returns : goal.returns
returns c =
    let r : RingSlots c.self.inside.free = record {
      slots = slots_at is_free c.self.inside.order.entries;
      is = c.self.invariant.1.free_is;
      few = few_slots
          is_free c.self.inside.order.entries (let k = c.self.invariant.0.spares.count in omega arith);
    } in
    let f = c.last_in-free.ensures r ∙ last_found is_free is_free c.self.inside.order.entries (λ s h. h) c.self.invariant.0.slots in
    let q : RingSlots c.self.inside.resident = record {
      slots = slots_at is_resident c.self.inside.order.entries;
      is = c.self.invariant.1.resident_is;
      few =
          few_slots is_resident c.self.inside.order.entries (let k = c.self.invariant.0.spares.count in omega arith);
    } in
    let g = c.last_in.ensures q ∙ last_found is_compacted is_resident c.self.inside.order.entries compacted_stays c.self.invariant.0.slots in
    victim_compacted (pools_in c.self.inside.order.entries) c.last_in-free.result c.last_in.result f (sym c.is_some.ensures ∙ c.if-is_some.false) g ∙ ap victim
    c.self.view_is
