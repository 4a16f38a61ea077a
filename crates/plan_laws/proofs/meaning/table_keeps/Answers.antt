use Rattle.plan_laws.proofs.Passing.{rows_right}
use Rattle.plan_laws.proofs.meaning.table_keeps.Goals as goal

pub returns : goal.returns
returns c = rows_right
