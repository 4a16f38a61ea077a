use Rattle.cleanup.proofs.Keeping.{Placing}
use Rattle.cleanup.proofs.unreachable.places.Given as goal

abbrev pub invariant-loop-mark : goal.invariant-loop-mark
invariant-loop-mark l = Placing l.marks l.mark-index l.next l.places.items
