use Rattle.c_module.proofs.Uncounted.{counts_are_no_limits}
use Rattle.c_module.proofs.lowering.counts_are_no_limits.Goals as goal

pub returns : goal.returns
returns c = counts_are_no_limits c.lowered_sizes_are_numbers.ensures
