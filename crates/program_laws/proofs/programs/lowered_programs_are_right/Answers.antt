use Rattle.program_laws.proofs.Linked.{lowered_programs_are_right}
use Rattle.program_laws.proofs.programs.lowered_programs_are_right.Goals as goal

pub returns : goal.returns
returns c = lowered_programs_are_right
