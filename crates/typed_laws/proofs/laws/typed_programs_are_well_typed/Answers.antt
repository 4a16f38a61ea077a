use Rattle.typed_laws.proofs.Modules.{programs_are_well_typed}
use Rattle.typed_laws.proofs.laws.typed_programs_are_well_typed.Goals as goal

pub returns : goal.returns
returns c = programs_are_well_typed c.typed_programs_are_whole.ensures
