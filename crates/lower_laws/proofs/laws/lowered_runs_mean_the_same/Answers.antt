use Rattle.lower_laws.proofs.Whole.{runs_mean_the_same}
use Rattle.lower_laws.proofs.laws.lowered_runs_mean_the_same.Goals as goal

pub returns : goal.returns
returns c = runs_mean_the_same
