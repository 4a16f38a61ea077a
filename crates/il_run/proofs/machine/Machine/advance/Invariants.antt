use Rattle.il_run.specs.Machine.{Leads, fuel}
use Rattle.il_run.proofs.machine.Machine.advance.Given as goal

abbrev pub invariant-running : goal.invariant-running
invariant-running l = Leads l.p l.t l.fn.self l.self

abbrev pub decreases-running : goal.decreases-running
decreases-running l = fuel l.p l.self
