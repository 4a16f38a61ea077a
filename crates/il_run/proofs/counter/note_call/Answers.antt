use Rattle.il_run.proofs.Counting.{counts_some}
use Rattle.il_run.proofs.counter.note_call.Goals as goal

pub returns-in-Some : goal.returns-in-Some
returns-in-Some c = λ called. counts_some _ _ _ _ _ c.in-Some.is (c.note.ensures called)
