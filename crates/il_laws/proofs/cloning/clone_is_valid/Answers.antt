use Rattle.il_laws.proofs.CloneValid.{clone_valid, clone_size}
use Rattle.il_laws.proofs.cloning.clone_is_valid.Goals as goal

pub returns-clause-valid : goal.returns-clause-valid
returns-clause-valid c = λ p r pid fixed ok params. clone_valid p.shapes r pid fixed ok params

pub returns-clause-size : goal.returns-clause-size
returns-clause-size c = clone_size
