use Rattle.std.proofs.Common.{ℕ, List, sym, subst, ◌∙◌}
use Rattle.std.proofs.Math.Path.{fun_ext}
use Rattle.naim_loader.specs.Paged.{IsGood}
use Rattle.outside.specs.Told.{Told}
use Rattle.profile.specs.Counts.{counts_of}
use Rattle.hlo_cmd.specs.Messages.{Says}
use Rattle.hlo_cmd.specs.Profiles.{HasCounts}
use Rattle.hlo_cmd.proofs.Fronts.{keeps_itself}
use Rattle.hlo_cmd.proofs.Opts.{opt_memory, opt_profile}
use Rattle.hlo_cmd.proofs.Verdicts.{said_by, status_by}
use Rattle.hlo_cmd.proofs.opt.serve_settings.Goals as goal

pub returns-in-Err-clause-promise : goal.returns-in-Err-clause-promise
returns-in-Err-clause-promise g c = λ words asked.
    rw c.refused-in-Err.ensures (opt_profile words _ _ _ _ _ _ _ (λ n. IsGood g.D.Disk.reach g.D.Disk.honest n c.args.disk) _ _ (Says _ _ _ _) _
    c.args.settings.now asked c.name_of.result _ c.in-Err.fault c.name_of.ensures
    (status_by _ _ _ c.profile_refusal-refusal.ensures c.refused.ensures.status)
    (said_by (Says _ _ _ _) _ _ _ c.profile_refusal-refusal.ensures c.refused.ensures.line)
    c.in-Err.ensures.err (keeps_itself _))

pub new-requires-clause-limit : goal.new-requires-clause-limit
new-requires-clause-limit g c = c.requires.limit

pub returns-in-Ok-new-clause-promise : goal.returns-in-Ok-new-clause-promise
returns-in-Ok-new-clause-promise g c = λ words asked.
    let told = fun_ext c.in-Ok.ensures.same in
    let counted = subst (λ (t : List ℕ → Told). HasCounts t c.args.settings.now.profile (counts_of c.in-Ok.profile)) (sym told) c.in-Ok.ensures.ok in
    let at = c.new-paging.ensures.loader ∙ c.in-Ok-new.ensures.made in
    let promise = c.serve_pools.ensures.promise words (g.S.Shelf.faults c.args.shelf.now) asked counted c.in-Ok.ensures.counts in
    rw (told, at) at promise

pub returns-clause-promise : goal.returns-clause-promise
returns-clause-promise g c = λ words asked.
    rw c.refused-in-Err-new-2.ensures (opt_memory words _ _ _ _ _ _ _ (λ n. IsGood g.D.Disk.reach g.D.Disk.honest n c.args.disk) _ _ (Says _ _ _ _) _
    c.refused-in-Err-new.ensures.status c.refused-in-Err-new.ensures.line (keeps_itself _))
