use Rattle.program_laws.proofs.Modules.{typed_modules_are_given}
use Rattle.program_laws.proofs.laws.typed_modules_are_given.Goals as goal

pub returns : goal.returns
returns c = typed_modules_are_given
