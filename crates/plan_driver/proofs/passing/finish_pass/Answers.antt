use Rattle.std.proofs.Common.{[], ◌∷◌, refl}
use Rattle.clone_steps.proofs.Composing.{lifted, lifted_stops, stops_first, then_made, then_stops}
use Rattle.one_owner.proofs.Frames.{err_so, ok_so}
use Rattle.plan_laws.specs.Plan.{prune}
use Rattle.plan_driver.specs.Passing.{AnyState, finished, rewritten, rewritten_programs, rewritten_states, with_program}
use Rattle.plan_driver.proofs.passing.finish_pass.Goals as goal

pub returns-in-Ok-clause-made : goal.returns-in-Ok-clause-made
returns-in-Ok-clause-made g c =
    let main = c.args.main in let limit = c.args.limit in let old = c.args.loader.now in let mid = c.rewrite_noted.new.loader in
    let x = c.args.progress in
    let r = lifted g.D.Disk.reach g.D.Disk.honest g.D.Disk.faults main (rewritten_programs main limit) (rewritten main limit) old x mid
    (rewritten_states main limit) (with_program (rewritten main limit)) (λ st. refl) (λ st. refl) c.requires.ready c.in-Ok.ensures.made in
    ok_so _ _ c.prune_state.result
    (λ y h. then_made g.D.Disk.reach g.D.Disk.honest g.D.Disk.faults main AnyState (rewritten_states main limit) (with_program (rewritten main limit))
    old x mid x r AnyState (λ st f. tt) (λ st. prune st ∷ []) prune c.prune_state.new.loader y.progress h) c.prune_state.ensures.made

pub returns-in-Ok-clause-cost : goal.returns-in-Ok-clause-cost
returns-in-Ok-clause-cost g c = λ st h.
    let main = c.args.main in let limit = c.args.limit in let old = c.args.loader.now in let mid = c.rewrite_noted.new.loader in
    let x = c.args.progress in
    let r = lifted g.D.Disk.reach g.D.Disk.honest g.D.Disk.faults main (rewritten_programs main limit) (rewritten main limit) old x mid
    (rewritten_states main limit) (with_program (rewritten main limit)) (λ st. refl) (λ st. refl) c.requires.ready c.in-Ok.ensures.made in
    c.prune_state.ensures.cost (with_program (rewritten main limit) st) (r.state st tt h).holds

pub returns-in-Ok-clause-err : goal.returns-in-Ok-clause-err
returns-in-Ok-clause-err g c =
    let main = c.args.main in let limit = c.args.limit in let old = c.args.loader.now in let mid = c.rewrite_noted.new.loader in
    let x = c.args.progress in
    let r = lifted g.D.Disk.reach g.D.Disk.honest g.D.Disk.faults main (rewritten_programs main limit) (rewritten main limit) old x mid
    (rewritten_states main limit) (with_program (rewritten main limit)) (λ st. refl) (λ st. refl) c.requires.ready c.in-Ok.ensures.made in
    err_so _ _ c.prune_state.result
    (λ e h. then_stops g.D.Disk.reach g.D.Disk.honest g.D.Disk.faults main AnyState (rewritten_states main limit) (with_program (rewritten main limit))
    old x mid x r AnyState (λ st f. tt) (λ st. prune st ∷ []) c.prune_state.new.loader e h) c.prune_state.ensures.err

pub returns-in-Err-clause-err : goal.returns-in-Err-clause-err
returns-in-Err-clause-err g c =
    let main = c.args.main in let limit = c.args.limit in let old = c.args.loader.now in let mid = c.rewrite_noted.new.loader in
    let x = c.args.progress in
    stops_first g.D.Disk.reach g.D.Disk.honest g.D.Disk.faults main AnyState (rewritten_states main limit) (λ st. finished main limit st ∷ []) old x mid
    c.in-Err.failure
    (lifted_stops g.D.Disk.reach g.D.Disk.honest g.D.Disk.faults main (rewritten_programs main limit) (rewritten main limit) old x mid
    (rewritten_states main limit) (λ st. refl) c.in-Err.failure c.in-Err.ensures.err)
