use Rattle.il_laws.proofs.FlowLaws as laws
use Rattle.il_laws.proofs.flowing.live_flows.Goals as goal

pub returns : goal.returns
returns c = laws.live_flows
