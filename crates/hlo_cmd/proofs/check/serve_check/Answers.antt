use Rattle.std.proofs.Common.{Err, refl, sym, ap, subst}
use Rattle.hlo_cmd.specs.Check.{AsksCheck}
use Rattle.hlo_cmd.specs.Messages.{Says}
use Rattle.hlo_cmd.proofs.Checks.{check_fault, check_passes, check_words}
use Rattle.hlo_cmd.proofs.Fronts.{says_nothing}
use Rattle.hlo_cmd.proofs.Verdicts.{no_refusal, said_by, status_by}
use Rattle.hlo_cmd.proofs.check.serve_check.Goals as goal

pub returns-in-Err-clause-promise : goal.returns-in-Err-clause-promise
returns-in-Err-clause-promise g c =
    check_words _ _ _ _ (Says _ _ _ _) _ _ c.in-Err.fault
    (status_by _ _ _ c.words_refusal.ensures c.refused.ensures.status)
    (said_by (Says _ _ _ _) _ _ _ c.words_refusal.ensures c.refused.ensures.line)
    (λ e s asked. c.in-Err.ensures.usage (ap Err e) s asked)

pub returns-in-Ok-check_modules-clause-promise : goal.returns-in-Ok-check_modules-clause-promise
returns-in-Ok-check_modules-clause-promise g c =
    check_passes _ _ _ _ (Says _ _ _ _) _ c.as_slice.result.now (subst (AsksCheck _) (sym c.as_slice.ensures) c.in-Ok.ensures.ok)
    refl (says_nothing _ _) (_, c.in-Ok-check_modules.ensures.typed) (no_refusal _ c.in-Ok-check_modules.ensures.refuses)

pub returns-clause-promise : goal.returns-clause-promise
returns-clause-promise g c =
    check_fault _ _ _ _ (Says _ _ _ _) _ c.as_slice.result.now
    (subst (AsksCheck _) (sym c.as_slice.ensures) c.in-Ok.ensures.ok) _ c.in-Err-check_modules.fault
    (status_by _ _ _ c.program_refusal.ensures c.refused-in-Err-check_modules.ensures.status)
    (said_by (Says _ _ _ _) _ _ _ c.program_refusal.ensures c.refused-in-Err-check_modules.ensures.line)
    c.in-Err-check_modules.ensures.err c.in-Err-check_modules.ensures.reads c.in-Err-check_modules.ensures.complete
