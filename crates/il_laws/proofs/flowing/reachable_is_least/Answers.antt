use Rattle.il_laws.proofs.FlowLaws as laws
use Rattle.il_laws.proofs.flowing.reachable_is_least.Goals as goal

pub returns : goal.returns
returns c = laws.reachable_is_least
