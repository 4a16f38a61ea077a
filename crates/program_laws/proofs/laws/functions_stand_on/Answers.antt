use Rattle.program_laws.proofs.Holding.{stands_grown}
use Rattle.program_laws.proofs.laws.functions_stand_on.Goals as goal

pub returns : goal.returns
returns c = stands_grown
