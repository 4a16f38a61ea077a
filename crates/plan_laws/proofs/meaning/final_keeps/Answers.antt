use Rattle.plan_laws.proofs.Passing.{final_runs}
use Rattle.plan_laws.proofs.meaning.final_keeps.Goals as goal

pub returns : goal.returns
returns c = final_runs
