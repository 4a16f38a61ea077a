use Rattle.plan_pools.proofs.Steps.{seen_stops}
use Rattle.one_owner.proofs.Frames.{err_so}
use Rattle.inline_steps.proofs.Stopped.{check_stops, err_both}
use Rattle.inline_steps.proofs.seeing.summarise_linked.Goals as goal

pub returns-in-Ok-clause-err : goal.returns-in-Ok-clause-err
returns-in-Ok-clause-err g c = λ main.
    err_so _ _ c.checked.result
    (λ e w. check_stops g.D.Disk.reach g.D.Disk.honest g.D.Disk.faults c.args.shapes.now main g.D.Disk.bytes c.args.loader.now c.summarise_program.new.loader
    c.in-Ok.graph c.stands.ensures c.in-Ok.ensures.ok c.in-Ok.ensures.graph c.checked.new.loader e c.requires.pools w.0 w.1)
    (err_both _ _ c.checked.result c.checked.ensures.err c.checked.ensures.cause)

pub returns-in-Err-clause-err : goal.returns-in-Err-clause-err
returns-in-Err-clause-err g c = λ main.
    seen_stops g.D.Disk.reach g.D.Disk.honest g.D.Disk.faults c.args.shapes.now main c.args.loader.now c.summarise_program.new.loader
    c.in-Err.failure c.in-Err.ensures.err
