use Rattle.std.proofs.Common.{Err, sym, ap, subst}
use Rattle.hlo_cmd.specs.Messages.{Says}
use Rattle.hlo_cmd.specs.Run.{AsksRun}
use Rattle.hlo_cmd.proofs.Fronts.{keeps_itself}
use Rattle.hlo_cmd.proofs.ModuleRuns.{run_ended, run_fault, run_stopped, run_words}
use Rattle.hlo_cmd.proofs.Verdicts.{flat_program, no_refusal, said_by, status_by}
use Rattle.hlo_cmd.proofs.run.serve_run.Goals as goal

pub returns-in-Err-clause-promise : goal.returns-in-Err-clause-promise
returns-in-Err-clause-promise g c =
    run_words _ _ _ _ _ _ _ _ _ _ _ _ (Says _ _ _ _) _ _ c.in-Err.fault
    (status_by _ _ _ c.words_refusal.ensures c.refused.ensures.status)
    (said_by (Says _ _ _ _) _ _ _ c.words_refusal.ensures c.refused.ensures.line)
    (λ e s asked. c.in-Err.ensures.usage (ap Err e) s asked) (keeps_itself _)

pub returns-in-Err-lowered_program-clause-promise : goal.returns-in-Err-lowered_program-clause-promise
returns-in-Err-lowered_program-clause-promise g c =
    run_fault _ _ _ _ _ _ _ _ _ _ _ _ (Says _ _ _ _) _ c.in-Ok.settings.turns c.as_slice-files.result.now
    (subst (AsksRun _ c.in-Ok.settings.turns) (sym c.as_slice-files.ensures) c.in-Ok.ensures.ok) _ c.in-Err-lowered_program.fault
    (status_by _ _ _ c.program_refusal.ensures c.refused-in-Err-lowered_program.ensures.status)
    (said_by (Says _ _ _ _) _ _ _ c.program_refusal.ensures c.refused-in-Err-lowered_program.ensures.line)
    c.in-Err-lowered_program.ensures.err c.in-Err-lowered_program.ensures.reads c.in-Err-lowered_program.ensures.complete (keeps_itself _)

pub returns-in-Ok-run-clause-promise : goal.returns-in-Ok-run-clause-promise
returns-in-Ok-run-clause-promise g c =
    run_ended _ _ _ _ _ _ _ _ _ _ _ _ (Says _ _ _ _) _ c.in-Ok.settings.turns c.as_slice-files.result.now
    (subst (AsksRun _ c.in-Ok.settings.turns) (sym c.as_slice-files.ensures) c.in-Ok.ensures.ok)
    c.in-Ok-lowered_program.program _ (flat_program _ _ _ _ _ c.flat.ensures.counts c.in-Ok-lowered_program.ensures.ok)
    (no_refusal _ c.in-Ok-lowered_program.ensures.refuses)
    c.in-Ok-run.ending c.ended.ensures.status c.ended.ensures.line c.in-Ok-run.ensures.ends

pub returns-clause-promise : goal.returns-clause-promise
returns-clause-promise g c =
    run_stopped _ _ _ _ _ _ _ _ _ _ _ _ (Says _ _ _ _) _ c.in-Ok.settings.turns c.as_slice-files.result.now
    (subst (AsksRun _ c.in-Ok.settings.turns) (sym c.as_slice-files.ensures) c.in-Ok.ensures.ok)
    c.in-Ok-lowered_program.program _ (flat_program _ _ _ _ _ c.flat.ensures.counts c.in-Ok-lowered_program.ensures.ok)
    (no_refusal _ c.in-Ok-lowered_program.ensures.refuses)
    c.in-Err-run.fault
    (status_by _ _ _ c.run_refusal.ensures c.refused-in-Err-run.ensures.status)
    (said_by (Says _ _ _ _) _ _ _ c.run_refusal.ensures c.refused-in-Err-run.ensures.line)
    c.in-Err-run.ensures.stops c.in-Err-run.ensures.cause (λ e. c.in-Err-run.ensures.wanted (ap Err e))
