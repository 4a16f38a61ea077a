use Rattle.lower_laws.proofs.Sizes.{sizes_are_numbers}
use Rattle.lower_laws.proofs.laws.lowered_sizes_are_numbers.Goals as goal

pub returns : goal.returns
returns c = sizes_are_numbers
