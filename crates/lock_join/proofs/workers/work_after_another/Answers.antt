use Rattle.lock_join.proofs.Turns.{may_split}
use Rattle.lock_join.proofs.workers.work_after_another.Goals as goal

pub split-requires-clause-rule : goal.split-requires-clause-rule
split-requires-clause-rule g c = may_split g.R.Rule.holds _ _ _ _ c.requires.ready.left c.fresh-fresh.ensures.rule
