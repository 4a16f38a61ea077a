use Rattle.lower_laws.proofs.Whole.{calls_mean_the_same}
use Rattle.lower_laws.proofs.laws.lowered_calls_mean_the_same.Goals as goal

pub returns : goal.returns
returns c = calls_mean_the_same
