use Rattle.std.proofs.Common.{refl, ap, subst, ◌∙◌, ◌≤◌}
use Rattle.naim_loader.specs.Paged.{IsGood}
use Rattle.hlo_cmd.specs.Messages.{Says}
use Rattle.hlo_cmd.specs.declared.report.Report.{Report}
use Rattle.hlo_cmd.proofs.Opts.{opt_printed, opt_refused}
use Rattle.hlo_cmd.proofs.Verdicts.{no_refusal}
use Rattle.hlo_cmd.proofs.opt.serve_pools.Goals as goal

pub returns-in-Ok-clause-promise : goal.returns-in-Ok-clause-promise
returns-in-Ok-clause-promise g c = λ words shelf_before asked counted later.
    let limit = c.in-Ok.ensures.kept.limit ∙ c.requires.limit in
    let report = c.close-disk.result.1 in
    opt_printed words _ shelf_before _ _ _ _ _ (λ n. IsGood g.D.Disk.reach g.D.Disk.honest n c.args.paging.loader.first) _ _ (Says _ _ _ _) 0
    c.args.settings.now asked _ counted _ later _ report c.print_files-done.new.paging.cost c.print_files-done.new.paging.planned refl c.in-Ok.ensures.ok
    c.tell_if.ensures
    (subst (λ n. report.under_peak ≤ n) limit c.close-disk.ensures.within)
    (ap (λ (r : Report). r.cost_before) c.close-disk.ensures.report) (ap (λ (r : Report). r.cost_after) c.close-disk.ensures.report)
    (no_refusal _ c.in-Ok.ensures.refuses)

pub returns-clause-promise : goal.returns-clause-promise
returns-clause-promise g c = λ words shelf_before asked counted later.
    rw c.refused-in-Err.ensures (rw c.close-disk.ensures.disk
    (opt_refused words _ shelf_before _ _ _ _ _ (λ n. IsGood g.D.Disk.reach g.D.Disk.honest n c.args.paging.loader.first) _ _ (Says _ _ _ _) _
    c.args.settings.now asked _ counted _ later _ c.in-Err.refusal c.refused.ensures.status c.refused.ensures.line
    c.in-Err.ensures.err c.in-Err.ensures.reads c.in-Err.ensures.complete c.in-Err.ensures.unprinted))
