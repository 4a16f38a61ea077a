use Rattle.cleanup.proofs.Keeping.{Keeping}
use Rattle.cleanup.proofs.unreachable.keep_marked.Given as goal

abbrev pub invariant-loop-b : goal.invariant-loop-b
invariant-loop-b l = Keeping l.marks l.fn.blocks l.b l.blocks l.kept.items
