use Rattle.std.proofs.Common.{subst}
use Rattle.naim_core.specs.Sound.{RecordsApart}
use Rattle.naim_core.specs.View.{core_of}
use Rattle.naim_core.proofs.Same.{follows_keeps, records_apart}
use Rattle.naim_core.proofs.state.CoreState.step.Goals as goal

pub returns-clause-apart : goal.returns-clause-apart
returns-clause-apart c = subst RecordsApart c.self.view_is (records_apart (core_of c.self.inside) c.self.invariant.0)

pub returns-clause-limit : goal.returns-clause-limit
returns-clause-limit c = (follows_keeps c.args.self.now c.args.event c.take-answer.result c.take-answer.new.self c.take-answer.ensures).limit

pub returns-clause-workers : goal.returns-clause-workers
returns-clause-workers c = (follows_keeps c.args.self.now c.args.event c.take-answer.result c.take-answer.new.self c.take-answer.ensures).workers
