use Rattle.std.proofs.Common.{List}
use Rattle.il_text.specs.Known.{Knows}
use Rattle.il_text.specs.Order.{Item, routine_item}
use Rattle.il_text.proofs.KnownItems.{IsOrderedSoFar}
use Rattle.il_text.proofs.order.misplaced_routine.Given as goal

abbrev pub invariant-loop-k : goal.invariant-loop-k
invariant-loop-k l = (items : List Item) → Knows l.initial.used items → IsOrderedSoFar routine_item l.used l.before l.k items l.routines
