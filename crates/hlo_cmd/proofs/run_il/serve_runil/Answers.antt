use Rattle.std.proofs.Common.{[], ap, inl, inr, Ok, Err}
use Rattle.hlo_cmd.specs.Messages.{Says}
use Rattle.hlo_cmd.proofs.Fronts.{keeps_itself}
use Rattle.hlo_cmd.proofs.Runs.{promise}
use Rattle.hlo_cmd.proofs.Verdicts.{said_by, said_under, status_by}
use Rattle.hlo_cmd.proofs.run_il.serve_runil.Goals as goal

pub returns-in-Err-clause-promise : goal.returns-in-Err-clause-promise
returns-in-Err-clause-promise g c = promise _ _ _ _ _ _ _ _ _ _ _ _ _ _ (inl (record {
  fault = c.in-Err.fault;
  status_is = status_by _ _ _ c.words_refusal.ensures c.refused.ensures.status;
  said = said_under (Says _ _ _ _) _ [] _ c.new-none.ensures (said_by (Says _ _ _ _) _ _ _ c.words_refusal.ensures c.refused.ensures.line);
  none = λ e s asked. c.in-Err.ensures.usage (ap Err e) s asked;
  kept = keeps_itself (g.O.Sink.taken c.args.out.now);
}))

pub returns-in-Ok-run_il-clause-promise : goal.returns-in-Ok-run_il-clause-promise
returns-in-Ok-run_il-clause-promise g c = promise _ _ _ _ _ _ _ _ _ _ _ _ _ _ (inr (record {
  settings = c.in-Ok.settings;
  asked = c.in-Ok.ensures.ok;
  outcome = Ok c.in-Ok-run_il.ending;
  came = c.in-Ok-run_il.ensures.ok;
  status_is = c.ended.ensures.status;
  said = c.ended.ensures.line;
}))

pub returns-clause-promise : goal.returns-clause-promise
returns-clause-promise g c = promise _ _ _ _ _ _ _ _ _ _ _ _ _ _ (inr (record {
  settings = c.in-Ok.settings;
  asked = c.in-Ok.ensures.ok;
  outcome = Err c.in-Err-run_il.refusal;
  came = c.in-Err-run_il.ensures.err;
  status_is = c.refused-in-Err-run_il.ensures.status;
  said = said_under (Says _ _ _ _) _ [] _ c.new-none.ensures c.refused-in-Err-run_il.ensures.line;
}))
