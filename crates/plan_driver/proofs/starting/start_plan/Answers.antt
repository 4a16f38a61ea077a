use Rattle.inline_steps.proofs.Stopped.{err_both}
use Rattle.one_owner.proofs.Frames.{err_so, ok_so}
use Rattle.std.proofs.Common.{subst, sym}
use Rattle.plan_driver.specs.Starting.{Starts}
use Rattle.plan_driver.proofs.Beginning.{begin_stops, begins, first_stops}
use Rattle.plan_driver.proofs.Pruned.{ok_both}
use Rattle.plan_driver.proofs.starting.start_plan.Goals as goal

pub begin-requires : goal.begin-requires
begin-requires g c = record { rests = (c.in-Ok.ensures.made 0).rests }

pub returns-in-Ok-clause-made : goal.returns-in-Ok-clause-made
returns-in-Ok-clause-made g c = λ main.
    let rows = c.args.shapes in let old = c.args.loader.now in let noted = c.note.new.loader in let mid = c.first_cost.new.loader in
    ok_so _ _ c.begin.result
    (λ s h. subst (λ l. Starts g.D.Disk.reach g.D.Disk.honest g.D.Disk.faults rows main old l s.names s.cost s.progress) (sym h.0)
    (begins g.D.Disk.reach g.D.Disk.honest g.D.Disk.faults rows main old noted (c.note.ensures.made rows main c.requires.pools) mid
    (c.in-Ok.ensures.made main) c.in-Ok.cost c.in-Ok.ensures.most (c.in-Ok.ensures.same main) (c.in-Ok.ensures.within main)
    s.names s.cost s.progress h.1))
    (ok_both _ _ c.begin.result c.begin.ensures.same c.begin.ensures.begins)

pub returns-in-Ok-clause-err : goal.returns-in-Ok-clause-err
returns-in-Ok-clause-err g c = λ main.
    let rows = c.args.shapes in let old = c.args.loader.now in let noted = c.note.new.loader in let mid = c.first_cost.new.loader in
    err_so _ _ c.begin.result
    (λ e h. begin_stops g.D.Disk.reach g.D.Disk.honest g.D.Disk.faults rows main old noted (c.note.ensures.made rows main c.requires.pools) mid
    (c.in-Ok.ensures.made main) c.begin.new.loader e h.0 h.1)
    (err_both _ _ c.begin.result c.begin.ensures.err c.begin.ensures.cause)

pub returns-in-Err-clause-err : goal.returns-in-Err-clause-err
returns-in-Err-clause-err g c = λ main.
    let rows = c.args.shapes in
    first_stops g.D.Disk.reach g.D.Disk.honest g.D.Disk.faults rows main c.args.loader.now c.note.new.loader
    (c.note.ensures.made rows main c.requires.pools) c.first_cost.new.loader c.in-Err.failure (c.in-Err.ensures.err main)
