use Rattle.std.proofs.Common.{◌≡◌, nat_eq, ◌++◌, None}
use Rattle.std.specs.Map.{lookup}
use Rattle.naim_core.specs.Table.{Order, pools_in}
use Rattle.naim_core.proofs.table.scan.Given as goal

-- the slots met so far, of which none has the pool
abbrev pub invariant-loop-slot : goal.invariant-loop-slot
invariant-loop-slot l = (front : Order) × (l.order.entries ≡ front ++ l.slot-iterator) × (lookup (nat_eq l.pid) (pools_in front) ≡ None)
