use Rattle.il_laws.proofs.Serving as laws
use Rattle.il_laws.proofs.keeping.run_kept.Goals as goal

pub returns : goal.returns
returns c = laws.run_kept
