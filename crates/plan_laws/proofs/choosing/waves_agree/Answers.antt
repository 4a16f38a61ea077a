use Rattle.plan_laws.proofs.Chosen as laws
use Rattle.plan_laws.proofs.choosing.waves_agree.Goals as goal

pub returns-clause-any : goal.returns-clause-any
returns-clause-any c = laws.waves_agree

pub returns-clause-chosen : goal.returns-clause-chosen
returns-clause-chosen c = laws.choice_waves
