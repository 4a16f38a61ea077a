use Rattle.std.proofs.Common.{arith}
use Rattle.hlo_cmd.proofs.Trainings.{sites_within}
use Rattle.hlo_cmd.proofs.training.set_routine.Goals as goal

pub set_sites-requires-clause-few : goal.set_sites-requires-clause-few
set_sites-requires-clause-few c =
    let count = c.requires.sites in
    let within = sites_within c.args.routine.now.blocks in
    let size = c.size-size.ensures.size in
    let bound = c.size-size.ensures.bound in
    omega arith
