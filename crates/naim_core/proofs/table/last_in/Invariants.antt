use Rattle.naim_core.specs.Table.{RingSlots, wanted}
use Rattle.naim_core.proofs.Residents.{Ahead}
use Rattle.naim_core.proofs.table.last_in.Given as goal

-- the slots that are still to be looked at decide
abbrev pub invariant-loop : goal.invariant-loop
invariant-loop l = (r : RingSlots l.ring) → Ahead l.order.entries l.ring (wanted l.compacted) l.slot l.counter r
