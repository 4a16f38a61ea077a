use Rattle.std.proofs.Common.{length}
use Rattle.clone_groups.proofs.Filling.{Filling}
use Rattle.clone_groups.proofs.retargeting.fill.Given as goal

abbrev pub invariant-loop-site : goal.invariant-loop-site
invariant-loop-site l = Filling l.moves l.left (length l.fn.table) l.table

abbrev pub decreases-loop-site : goal.decreases-loop-site
decreases-loop-site l = length l.left
