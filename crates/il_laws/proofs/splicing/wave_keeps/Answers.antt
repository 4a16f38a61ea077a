use Rattle.il_laws.proofs.SpliceServes.{wave_follows}
use Rattle.il_laws.proofs.splicing.wave_keeps.Goals as goal

pub returns : goal.returns
returns c = λ p valid rs h. wave_follows p valid rs h
