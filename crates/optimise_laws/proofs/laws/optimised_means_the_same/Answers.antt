use Rattle.optimise_laws.proofs.Whole.{optimised_means_the_same}
use Rattle.optimise_laws.proofs.laws.optimised_means_the_same.Goals as goal

pub returns : goal.returns
returns c = optimised_means_the_same
