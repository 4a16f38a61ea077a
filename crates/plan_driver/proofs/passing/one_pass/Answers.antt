use Rattle.clone_steps.proofs.Composing.{stops_first, then_made, then_stops}
use Rattle.one_owner.proofs.Frames.{err_so, ok_so}
use Rattle.plan_pools.specs.Cloning.{MayClone, cloning_states, sent}
use Rattle.plan_driver.specs.Passing.{AnyState, finish_states, finished}
use Rattle.plan_driver.proofs.passing.one_pass.Goals as goal

pub returns-in-Ok-clause-made : goal.returns-in-Ok-clause-made
returns-in-Ok-clause-made g c =
    let names = c.args.names.now in let main = c.args.main in let limit = c.args.limit in
    ok_so _ _ c.finish_pass.result
    (λ y h. then_made g.D.Disk.reach g.D.Disk.honest g.D.Disk.faults main (MayClone names main limit) (cloning_states names main limit)
    (sent names main limit) c.args.loader.now c.args.progress c.clone_program.new.loader c.in-Ok.cloned c.in-Ok.ensures.made
    AnyState (λ st f. tt) (finish_states main limit) (finished main limit) c.finish_pass.new.loader y.progress h) c.finish_pass.ensures.made

pub returns-in-Ok-clause-cost : goal.returns-in-Ok-clause-cost
returns-in-Ok-clause-cost g c = λ st may h.
    c.finish_pass.ensures.cost (sent c.args.names.now c.args.main c.args.limit st) (c.in-Ok.ensures.made.state st may h).holds

pub returns-in-Ok-clause-err : goal.returns-in-Ok-clause-err
returns-in-Ok-clause-err g c =
    let names = c.args.names.now in let main = c.args.main in let limit = c.args.limit in
    err_so _ _ c.finish_pass.result
    (λ e h. then_stops g.D.Disk.reach g.D.Disk.honest g.D.Disk.faults main (MayClone names main limit) (cloning_states names main limit)
    (sent names main limit) c.args.loader.now c.args.progress c.clone_program.new.loader c.in-Ok.cloned c.in-Ok.ensures.made
    AnyState (λ st f. tt) (finish_states main limit) c.finish_pass.new.loader e h) c.finish_pass.ensures.err

pub returns-in-Err-clause-err : goal.returns-in-Err-clause-err
returns-in-Err-clause-err g c =
    let names = c.args.names.now in let main = c.args.main in let limit = c.args.limit in
    stops_first g.D.Disk.reach g.D.Disk.honest g.D.Disk.faults main (MayClone names main limit) (cloning_states names main limit)
    (λ st. finish_states main limit (sent names main limit st)) c.args.loader.now c.args.progress c.clone_program.new.loader c.in-Err.failure
    c.in-Err.ensures.err
