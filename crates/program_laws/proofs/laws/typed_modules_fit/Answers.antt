use Rattle.program_laws.proofs.Modules.{typed_modules_fit}
use Rattle.program_laws.proofs.laws.typed_modules_fit.Goals as goal

pub returns : goal.returns
returns c = typed_modules_fit
