use Rattle.std.proofs.Common.{Err, sym, ap, subst}
use Rattle.hlo_words.proofs.Same.{same_opt}
use Rattle.hlo_words.specs.declared.settings.OptSettings.{OptSettings}
use Rattle.naim_loader.specs.Paged.{IsGood}
use Rattle.hlo_cmd.specs.Messages.{Says}
use Rattle.hlo_cmd.proofs.Fronts.{keeps_itself}
use Rattle.hlo_cmd.proofs.Opts.{in_range, limit_most, opt_words}
use Rattle.hlo_cmd.proofs.Verdicts.{said_by, status_by}
use Rattle.hlo_cmd.proofs.opt.opt_command.Goals as goal

pub serve_settings-requires : goal.serve_settings-requires
serve_settings-requires g c = record {
  limit = limit_most _ c.in-Ok.settings c.in-Ok.ensures.ok;
  range = in_range _ c.in-Ok.settings c.in-Ok.ensures.ok;
}

pub returns-in-Ok-clause-good : goal.returns-in-Ok-clause-good
returns-in-Ok-clause-good g c = λ s asked good.
    let same = ap (λ (x : OptSettings). x.limit) (same_opt _ s c.in-Ok.settings asked.settings c.in-Ok.ensures.ok.settings) in
    let here = c.serve_settings.ensures.good (subst (λ n. IsGood g.D.Disk.reach g.D.Disk.honest n c.args.disk) same good) in
    subst (λ n. IsGood g.D.Disk.reach g.D.Disk.honest n c.serve_settings.result.disk) (sym same) here

pub returns-in-Err-clause-promise : goal.returns-in-Err-clause-promise
returns-in-Err-clause-promise g c = rw c.refused.ensures (opt_words _ _ _ _ _ _ _ _ _ _ _ (Says _ _ _ _) _ _ c.in-Err.fault
    (status_by _ _ _ c.words_refusal.ensures c.refused-status.ensures.status)
    (said_by (Says _ _ _ _) _ _ _ c.words_refusal.ensures c.refused-status.ensures.line)
    (λ e. c.in-Err.ensures.usage (ap Err e)) (keeps_itself _))
