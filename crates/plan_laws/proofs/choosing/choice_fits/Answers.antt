use Rattle.il_core.specs.Program.{main_pid}
use Rattle.plan_laws.specs.Summary.{summaries}
use Rattle.plan_laws.proofs.Chosen.{choice_calls, choice_acyclic}
use Rattle.plan_laws.proofs.choosing.choice_fits.Goals as goal

pub returns : goal.returns
returns c = λ p valid limit.
    record { calls = choice_calls p valid (main_pid p.shapes) limit; acyclic = choice_acyclic (summaries p) (main_pid p.shapes) limit }
