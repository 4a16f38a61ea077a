use Rattle.program_laws.proofs.Linked.{linking_modules_run}
use Rattle.program_laws.proofs.programs.linking_modules_run.Goals as goal

pub returns : goal.returns
returns c = linking_modules_run
