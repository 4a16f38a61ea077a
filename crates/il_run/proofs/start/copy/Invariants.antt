use Rattle.il_run.proofs.Starting.{CopiesTo}
use Rattle.il_run.proofs.start.copy.Given as goal

abbrev pub invariant-loop-k : goal.invariant-loop-k
invariant-loop-k l = CopiesTo l.fn.words.items l.words.items l.at l.init l.k
