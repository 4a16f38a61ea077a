use Rattle.program_laws.proofs.Modules.{typed_programs_are_whole}
use Rattle.program_laws.proofs.laws.typed_programs_are_whole.Goals as goal

pub returns : goal.returns
returns c = typed_programs_are_whole
