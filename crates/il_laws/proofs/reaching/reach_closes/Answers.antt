use Rattle.il_laws.proofs.ReachClosed.{live_calls, main_live}
use Rattle.il_laws.proofs.reaching.reach_closes.Goals as goal

pub returns : goal.returns
returns c = λ p. record { main = main_live p; calls = λ x r k e. live_calls p x r k e }
