use Rattle.lower_laws.proofs.ValidRoutines.{lowered_is_valid}
use Rattle.lower_laws.proofs.validity.lowered_is_valid.Goals as goal

pub returns : goal.returns
returns c = lowered_is_valid
