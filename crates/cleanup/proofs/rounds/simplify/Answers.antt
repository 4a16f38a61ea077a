use Rattle.std.proofs.Common.{◌≡◌, subst}
use Rattle.std.specs.Prelude.{IfOk}
use Rattle.il_core.specs.Routine.{RoutineParts}
use Rattle.il_laws.specs.Simplify.{simplify}
use Rattle.cleanup.proofs.rounds.simplify.Goals as goal

pub returns : goal.returns
returns c = subst (λ (r : RoutineParts). IfOk c.simplify_owned.result (λ q. q ≡ simplify r)) c.in_ok-copy.ensures c.simplify_owned.ensures
