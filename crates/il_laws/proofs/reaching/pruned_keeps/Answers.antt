use Rattle.il_laws.proofs.KeptPrograms.{pruned_follows}
use Rattle.il_laws.proofs.reaching.pruned_keeps.Goals as goal

pub returns : goal.returns
returns c = pruned_follows
