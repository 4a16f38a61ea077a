use Rattle.plan_pools.proofs.ZeroPass.{pass_at_zero, table_at_zero}
use Rattle.plan_pools.proofs.laws.pass_at_zero.Goals as goal

pub returns-clause-pass : goal.returns-clause-pass
returns-clause-pass c = pass_at_zero

pub returns-clause-table : goal.returns-clause-table
returns-clause-table c = table_at_zero
