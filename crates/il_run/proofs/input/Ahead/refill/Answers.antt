use Rattle.il_run.proofs.Asking.{asks_ok, asks_err, positive, when_err}
use Rattle.il_run.proofs.Placing.{once_ok, once_err}
use Rattle.il_run.proofs.input.Ahead.refill.Goals as goal

pub returns-in_err-n-clause-asks : goal.returns-in_err-n-clause-asks
returns-in_err-n-clause-asks g c = λ start h. when_err c.from_residual.result _ _ c.from_residual.ensures.0 (asks_err start _ _ _ h c.in_err-n.ensures.noted)

pub returns-clause-asks : goal.returns-clause-asks
returns-clause-asks g c = λ start h. asks_ok _ start _ _ c.in_ok-n.n _ h c.in_ok-n.ensures.noted (λ e. positive c.in_ok-n.n e)

pub returns-in_err-n-clause-asked : goal.returns-in_err-n-clause-asked
returns-in_err-n-clause-asked g c = once_err _ _ _ _ _ _ c.requires.empty c.requires.open c.in_err-n.ensures.noted c.in_err-n.ensures.bytes

pub returns-clause-asked : goal.returns-clause-asked
returns-clause-asked g c = once_ok _ _ _ _ _ _ _ _ c.requires.empty c.requires.open c.in_ok-n.ensures.noted c.in_ok-n.ensures.bytes.0 c.in_ok-n.ensures.bound
