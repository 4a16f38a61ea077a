use Rattle.il_laws.proofs.FlowLaws as laws
use Rattle.il_laws.proofs.flowing.facts_meet.Goals as goal

pub returns : goal.returns
returns c = laws.facts_meet
