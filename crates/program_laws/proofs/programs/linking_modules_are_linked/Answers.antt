use Rattle.program_laws.proofs.Linked.{linking_modules_are_linked}
use Rattle.program_laws.proofs.programs.linking_modules_are_linked.Goals as goal

pub returns : goal.returns
returns c = linking_modules_are_linked
