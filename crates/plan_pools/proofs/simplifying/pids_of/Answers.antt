use Rattle.plan_pools.proofs.Programs.{pids_differ}
use Rattle.plan_pools.proofs.simplifying.pids_of.Goals as goal

pub returns-clause-differ : goal.returns-clause-differ
returns-clause-differ c = pids_differ c.args.shapes.now c.rows_of-rows.ensures.rising

pub returns-in_err-push-clause-differ : goal.returns-in_err-push-clause-differ
returns-in_err-push-clause-differ c = pids_differ c.args.shapes.now c.rows_of-rows.ensures.rising
