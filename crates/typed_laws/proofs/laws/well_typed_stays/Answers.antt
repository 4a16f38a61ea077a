use Rattle.typed_laws.proofs.Growing.{well_typed_stays}
use Rattle.typed_laws.proofs.laws.well_typed_stays.Goals as goal

pub returns : goal.returns
returns c = well_typed_stays
