use Rattle.optimise_laws.proofs.Whole.{optimised_stays_in_budget}
use Rattle.optimise_laws.proofs.laws.optimised_stays_in_budget.Goals as goal

pub returns : goal.returns
returns c = optimised_stays_in_budget
