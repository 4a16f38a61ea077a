use Rattle.il_laws.proofs.Running.{has_run}
use Rattle.il_laws.proofs.keeping.valid_runs.Goals as goal

pub returns : goal.returns
returns c = has_run
