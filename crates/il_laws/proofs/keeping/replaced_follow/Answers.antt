use Rattle.il_laws.proofs.Serving.{each_follows, routine_follows}
use Rattle.il_laws.proofs.keeping.replaced_follow.Goals as goal

pub returns-clause-each : goal.returns-clause-each
returns-clause-each c = each_follows

pub returns-clause-one : goal.returns-clause-one
returns-clause-one c = routine_follows
