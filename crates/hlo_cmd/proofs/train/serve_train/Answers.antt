use Rattle.std.proofs.Common.{Err, sym, ap, subst}
use Rattle.hlo_cmd.specs.Messages.{Says}
use Rattle.hlo_cmd.specs.Train.{AsksTrain}
use Rattle.hlo_cmd.proofs.Fronts.{keeps_itself}
use Rattle.hlo_cmd.proofs.ModuleTrains.{train_ended, train_fault, train_stopped, train_unwritten, train_words}
use Rattle.hlo_cmd.proofs.Verdicts.{flat_program, no_refusal, said_by, status_by}
use Rattle.hlo_cmd.proofs.train.serve_train.Goals as goal

pub returns-in-Err-clause-promise : goal.returns-in-Err-clause-promise
returns-in-Err-clause-promise g c =
    train_words _ _ _ _ _ _ _ _ _ _ _ _ (Says _ _ _ _) _ _ c.in-Err.fault
    (status_by _ _ _ c.words_refusal.ensures c.refused.ensures.status)
    (said_by (Says _ _ _ _) _ _ _ c.words_refusal.ensures c.refused.ensures.line)
    (λ e s asked. c.in-Err.ensures.usage (ap Err e) s asked) (keeps_itself _)

pub returns-in-Err-lowered_program-clause-promise : goal.returns-in-Err-lowered_program-clause-promise
returns-in-Err-lowered_program-clause-promise g c =
    train_fault _ _ _ _ _ _ _ _ _ _ _ _ (Says _ _ _ _) _ c.in-Ok.settings.turns c.as_slice-files.result.now
    (subst (AsksTrain _ c.in-Ok.settings.turns) (sym c.as_slice-files.ensures) c.in-Ok.ensures.ok) _ c.in-Err-lowered_program.fault
    (status_by _ _ _ c.program_refusal.ensures c.refused-in-Err-lowered_program.ensures.status)
    (said_by (Says _ _ _ _) _ _ _ c.program_refusal.ensures c.refused-in-Err-lowered_program.ensures.line)
    c.in-Err-lowered_program.ensures.err c.in-Err-lowered_program.ensures.reads c.in-Err-lowered_program.ensures.complete (keeps_itself _)

pub returns-in-Err-run_counting-clause-promise : goal.returns-in-Err-run_counting-clause-promise
returns-in-Err-run_counting-clause-promise g c =
    train_stopped _ _ _ _ _ _ _ _ _ _ _ _ (Says _ _ _ _) _ c.in-Ok.settings.turns c.as_slice-files.result.now
    (subst (AsksTrain _ c.in-Ok.settings.turns) (sym c.as_slice-files.ensures) c.in-Ok.ensures.ok)
    c.in-Ok-lowered_program.program _ (flat_program _ _ _ _ _ c.flat.ensures.counts c.in-Ok-lowered_program.ensures.ok)
    (no_refusal _ c.in-Ok-lowered_program.ensures.refuses)
    c.in-Err-run_counting.fault
    (status_by _ _ _ c.run_refusal.ensures c.refused-in-Err-run_counting.ensures.status)
    (said_by (Says _ _ _ _) _ _ _ c.run_refusal.ensures c.refused-in-Err-run_counting.ensures.line)
    c.in-Err-run_counting.ensures.cause (λ e. c.in-Err-run_counting.ensures.wanted (ap Err e)) (keeps_itself _)

pub returns-in-Ok-put_profile-clause-promise : goal.returns-in-Ok-put_profile-clause-promise
returns-in-Ok-put_profile-clause-promise g c =
    train_ended _ _ _ _ _ _ _ _ _ _ _ _ (Says _ _ _ _) _ c.in-Ok.settings.turns c.as_slice-files.result.now
    (subst (AsksTrain _ c.in-Ok.settings.turns) (sym c.as_slice-files.ensures) c.in-Ok.ensures.ok)
    c.in-Ok-lowered_program.program _ (flat_program _ _ _ _ _ c.flat.ensures.counts c.in-Ok-lowered_program.ensures.ok)
    (no_refusal _ c.in-Ok-lowered_program.ensures.refuses)
    _ _ c.in-Ok-run_counting.ensures.ended c.ended.ensures.status c.ended.ensures.line c.in-Ok-put_profile.ensures.put

pub returns-clause-promise : goal.returns-clause-promise
returns-clause-promise g c =
    train_unwritten _ _ _ _ _ _ _ _ _ _ _ _ (Says _ _ _ _) _ c.in-Ok.settings.turns c.as_slice-files.result.now
    (subst (AsksTrain _ c.in-Ok.settings.turns) (sym c.as_slice-files.ensures) c.in-Ok.ensures.ok)
    c.in-Ok-lowered_program.program _ (flat_program _ _ _ _ _ c.flat.ensures.counts c.in-Ok-lowered_program.ensures.ok)
    (no_refusal _ c.in-Ok-lowered_program.ensures.refuses)
    _ _ c.in-Ok-run_counting.ensures.ended c.in-Err-put_profile.fault
    (status_by _ _ _ c.print_refusal.ensures c.refused-in-Err-put_profile.ensures.status)
    (said_by (Says _ _ _ _) _ _ _ c.print_refusal.ensures c.refused-in-Err-put_profile.ensures.line)
    c.in-Err-put_profile.ensures.cause c.in-Err-put_profile.ensures.put
