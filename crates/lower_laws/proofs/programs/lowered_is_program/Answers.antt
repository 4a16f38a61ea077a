use Rattle.lower_laws.proofs.ProgramsValid.{lowered_is_program}
use Rattle.lower_laws.proofs.programs.lowered_is_program.Goals as goal

pub returns : goal.returns
returns c = lowered_is_program
