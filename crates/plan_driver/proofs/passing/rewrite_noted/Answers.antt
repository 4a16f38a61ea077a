use Rattle.std.proofs.Common.{[], ◌∷◌}
use Rattle.inline_steps.specs.Steps.{inlined}
use Rattle.one_owner.proofs.Frames.{err_so, ok_so}
use Rattle.plan_pools.specs.Budgetless.{simplified}
use Rattle.plan_pools.proofs.Plans.{made_on, need_left, stops_on, stops_so}
use Rattle.plan_driver.specs.Passing.{rewritten, rewritten_programs}
use Rattle.plan_driver.proofs.passing.rewrite_noted.Goals as goal

pub returns-in-Err-clause-err : goal.returns-in-Err-clause-err
returns-in-Err-clause-err g c =
    let main = c.args.main in let limit = c.args.limit in
    stops_so g.D.Disk.reach g.D.Disk.honest g.D.Disk.faults c.args.shapes.now main (λ p. simplified p ∷ []) (rewritten_programs main limit)
    (λ p q n h. need_left (simplified p ∷ []) (inlined main limit (simplified p) ∷ rewritten main limit p ∷ []) q n h)
    c.args.loader.now c.simplify_noted.new.loader c.in-Err.failure (c.in-Err.ensures.err main)

pub inline_noted-requires-clause-rests : goal.inline_noted-requires-clause-rests
inline_noted-requires-clause-rests g c = (c.in-Ok.ensures.made 0).rests

pub inline_noted-requires-clause-pools : goal.inline_noted-requires-clause-pools
inline_noted-requires-clause-pools g c = (c.in-Ok.ensures.made 0).pools

pub returns-in-Ok-inline_noted-clause-made : goal.returns-in-Ok-inline_noted-clause-made
returns-in-Ok-inline_noted-clause-made g c =
    let rows = c.args.shapes.now in let main = c.args.main in let limit = c.args.limit in
    let old = c.args.loader.now in let one = c.simplify_noted.new.loader in let two = c.inline_noted.new.loader in
    let made = made_on g.D.Disk.reach g.D.Disk.honest g.D.Disk.faults rows main (λ p. simplified p ∷ []) simplified old one rows
    (c.in-Ok.ensures.made main) (λ p. inlined main limit p ∷ []) (inlined main limit) two rows c.in-Ok-inline_noted.ensures.made in
    ok_so _ _ c.simplify_noted-in-Ok-inline_noted.result
    (λ x h. made_on g.D.Disk.reach g.D.Disk.honest g.D.Disk.faults rows main
    (λ p. simplified p ∷ inlined main limit (simplified p) ∷ []) (λ p. inlined main limit (simplified p)) old two rows made
    (λ p. simplified p ∷ []) simplified c.simplify_noted-in-Ok-inline_noted.new.loader rows h)
    (c.simplify_noted-in-Ok-inline_noted.ensures.made main)

pub returns-in-Ok-inline_noted-clause-err : goal.returns-in-Ok-inline_noted-clause-err
returns-in-Ok-inline_noted-clause-err g c =
    let rows = c.args.shapes.now in let main = c.args.main in let limit = c.args.limit in
    let old = c.args.loader.now in let one = c.simplify_noted.new.loader in let two = c.inline_noted.new.loader in
    let made = made_on g.D.Disk.reach g.D.Disk.honest g.D.Disk.faults rows main (λ p. simplified p ∷ []) simplified old one rows
    (c.in-Ok.ensures.made main) (λ p. inlined main limit p ∷ []) (inlined main limit) two rows c.in-Ok-inline_noted.ensures.made in
    err_so _ _ c.simplify_noted-in-Ok-inline_noted.result
    (λ e h. stops_on g.D.Disk.reach g.D.Disk.honest g.D.Disk.faults rows main
    (λ p. simplified p ∷ inlined main limit (simplified p) ∷ []) (λ p. inlined main limit (simplified p)) old two rows made
    (λ p. simplified p ∷ []) c.simplify_noted-in-Ok-inline_noted.new.loader e h)
    (c.simplify_noted-in-Ok-inline_noted.ensures.err main)

pub returns-in-Err-inline_noted-clause-err : goal.returns-in-Err-inline_noted-clause-err
returns-in-Err-inline_noted-clause-err g c =
    let rows = c.args.shapes.now in let main = c.args.main in let limit = c.args.limit in
    let old = c.args.loader.now in let one = c.simplify_noted.new.loader in let two = c.inline_noted.new.loader in
    stops_so g.D.Disk.reach g.D.Disk.honest g.D.Disk.faults rows main (λ p. simplified p ∷ inlined main limit (simplified p) ∷ [])
    (rewritten_programs main limit)
    (λ p q n h. need_left (simplified p ∷ inlined main limit (simplified p) ∷ []) (rewritten main limit p ∷ []) q n h) old two c.in-Err-inline_noted.failure
    (stops_on g.D.Disk.reach g.D.Disk.honest g.D.Disk.faults rows main (λ p. simplified p ∷ []) simplified old one rows
    (c.in-Ok.ensures.made main) (λ p. inlined main limit p ∷ []) two c.in-Err-inline_noted.failure c.in-Err-inline_noted.ensures.err)
