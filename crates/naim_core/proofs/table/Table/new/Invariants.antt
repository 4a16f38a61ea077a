use Rattle.std.proofs.Common.{◌≡◌, ◌≤◌}
use Rattle.std.specs.Vec.{vec_capacity}
use Rattle.naim_core.proofs.Fresh.{empty_order, numbers}
use Rattle.naim_core.proofs.table.Table.new.Given as goal

-- the slots below this one are in the order and spare
abbrev pub invariant-loop-slot : goal.invariant-loop-slot
invariant-loop-slot l = (l.order.cap ≡ 4096) × (l.order.entries ≡ empty_order l.slot) × (l.spare.items ≡ numbers l.slot) × (4096 ≤ vec_capacity l.spare)
