use Rattle.il_laws.proofs.Serving as laws
use Rattle.il_laws.proofs.keeping.follow_then.Goals as goal

pub returns : goal.returns
returns c = laws.follow_then
