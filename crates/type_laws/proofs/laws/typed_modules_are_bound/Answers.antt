use Rattle.type_laws.proofs.Modules.{typed_modules_are_bound}
use Rattle.type_laws.proofs.laws.typed_modules_are_bound.Goals as goal

pub returns : goal.returns
returns c = typed_modules_are_bound
