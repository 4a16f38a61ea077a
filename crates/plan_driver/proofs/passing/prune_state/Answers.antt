use Rattle.std.proofs.Common.{[], ◌∷◌, subst, sym}
use Rattle.clone_pools.specs.States.{StateMade}
use Rattle.inline_steps.proofs.Stopped.{err_both}
use Rattle.one_owner.proofs.Frames.{err_so, ok_so}
use Rattle.plan_laws.specs.Plan.{prune}
use Rattle.plan_driver.specs.Passing.{AnyState}
use Rattle.plan_driver.proofs.Pruned.{memory_stops, ok_both, prune_stops, pruned_state}
use Rattle.plan_driver.proofs.passing.prune_state.Goals as goal

pub returns-in-Ok-clause-made : goal.returns-in-Ok-clause-made
returns-in-Ok-clause-made g c =
    let old = c.args.loader.now in let mid = c.prune_noted.new.loader in let x = c.args.progress in let main = c.args.main in
    ok_so _ _ c.keep_live.result
    (λ y h. subst (λ l. StateMade g.D.Disk.reach g.D.Disk.honest g.D.Disk.faults main AnyState (λ st. prune st ∷ []) prune old x l y.progress) (sym h.0)
    (pruned_state g.D.Disk.reach g.D.Disk.honest g.D.Disk.faults main old mid x c.in-Ok.planned.shapes c.in-Ok.ensures.made c.requires.ready
    (c.in-Ok.ensures.below x.next c.requires.ready.above) y.progress h.1))
    (ok_both _ _ c.keep_live.result c.keep_live.ensures.same c.keep_live.ensures.kept)

pub returns-in-Ok-clause-err : goal.returns-in-Ok-clause-err
returns-in-Ok-clause-err g c =
    err_so _ _ c.keep_live.result
    (λ e h. memory_stops g.D.Disk.reach g.D.Disk.honest g.D.Disk.faults c.args.main c.args.loader.now c.prune_noted.new.loader c.args.progress
    c.in-Ok.planned.shapes c.in-Ok.ensures.made c.keep_live.new.loader e h.1 h.0)
    (err_both _ _ c.keep_live.result c.keep_live.ensures.err c.keep_live.ensures.memory)

pub returns-in-Err-clause-err : goal.returns-in-Err-clause-err
returns-in-Err-clause-err g c =
    prune_stops g.D.Disk.reach g.D.Disk.honest g.D.Disk.faults c.args.main c.args.loader.now c.prune_noted.new.loader c.args.progress
    c.in-Err.failure c.in-Err.ensures.err
