use Rattle.plan_laws.proofs.Passing.{plan_follows}
use Rattle.plan_laws.proofs.meaning.plan_keeps.Goals as goal

pub returns : goal.returns
returns c = plan_follows
