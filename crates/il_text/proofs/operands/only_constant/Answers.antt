use Rattle.std.proofs.Common.{ap, Some, []}
use Rattle.il_text.proofs.operands.only_constant.Goals as goal

pub returns-then-is_done-clause-each : goal.returns-then-is_done-clause-each
returns-then-is_done-clause-each c = λ w lt e. let r = c.in_ok-first.ensures.each w [] lt e in ap Some r.0
