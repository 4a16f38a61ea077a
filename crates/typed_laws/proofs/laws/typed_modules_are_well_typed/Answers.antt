use Rattle.typed_laws.proofs.Modules.{typed_modules_are_well_typed}
use Rattle.typed_laws.proofs.laws.typed_modules_are_well_typed.Goals as goal

pub returns : goal.returns
returns c = typed_modules_are_well_typed
