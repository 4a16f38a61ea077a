use Rattle.lower_laws.proofs.ProgramsMeet.{lowered_means_the_same}
use Rattle.lower_laws.proofs.programs.lowered_means_the_same.Goals as goal

pub returns : goal.returns
returns c = lowered_means_the_same
