use Rattle.lock_join.proofs.workers.+halves.Given as goal

abbrev pub decreases-first : goal.decreases-first
decreases-first g l = l.rest

abbrev pub decreases-second : goal.decreases-second
decreases-second g l = l.half

abbrev pub decreases-work_in_halves : goal.decreases-work_in_halves
decreases-work_in_halves g l = l.share
