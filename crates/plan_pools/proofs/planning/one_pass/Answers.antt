use Rattle.std.proofs.Common.{[], ◌∷◌}
use Rattle.il_laws.specs.Reach.{pruned}
use Rattle.one_owner.proofs.Frames.{err_so, ok_so}
use Rattle.plan_pools.specs.Budgetless.{pass_programs, passed, simplified}
use Rattle.plan_pools.proofs.Plans.{made_on, need_left, stops_on, stops_so}
use Rattle.plan_pools.proofs.planning.one_pass.Goals as goal

pub returns-in-Err-clause-err : goal.returns-in-Err-clause-err
returns-in-Err-clause-err g c =
    stops_so g.D.Disk.reach g.D.Disk.honest g.D.Disk.faults c.args.shapes c.args.main (λ p. p ∷ p ∷ simplified p ∷ simplified p ∷ []) pass_programs
    (λ p q n h. need_left (p ∷ p ∷ simplified p ∷ simplified p ∷ []) (simplified (simplified p) ∷ passed p ∷ []) q n h)
    c.args.loader.now c.begin_pass.new.loader c.in-Err.failure (c.in-Err.ensures.err c.args.main)

pub simplify_noted-requires-clause-rests : goal.simplify_noted-requires-clause-rests
simplify_noted-requires-clause-rests g c = (c.in-Ok.ensures.made 0).rests

pub simplify_noted-requires-clause-pools : goal.simplify_noted-requires-clause-pools
simplify_noted-requires-clause-pools g c = (c.in-Ok.ensures.made 0).pools

pub prune_noted-requires-clause-rests : goal.prune_noted-requires-clause-rests
prune_noted-requires-clause-rests g c = (c.in-Ok-simplify_noted.ensures.made 0).rests

pub prune_noted-requires-clause-pools : goal.prune_noted-requires-clause-pools
prune_noted-requires-clause-pools g c = (c.in-Ok-simplify_noted.ensures.made 0).pools

pub returns-in-Ok-simplify_noted-clause-made : goal.returns-in-Ok-simplify_noted-clause-made
returns-in-Ok-simplify_noted-clause-made g c =
    let rows = c.args.shapes in let main = c.args.main in
    let two = made_on g.D.Disk.reach g.D.Disk.honest g.D.Disk.faults rows main (λ p. p ∷ p ∷ simplified p ∷ simplified p ∷ []) simplified c.args.loader.now
    c.begin_pass.new.loader rows (c.in-Ok.ensures.made main) (λ p. simplified p ∷ []) simplified c.simplify_noted.new.loader rows
    (c.in-Ok-simplify_noted.ensures.made main) in
    ok_so _ _ c.prune_noted.result
    (λ x h. made_on g.D.Disk.reach g.D.Disk.honest g.D.Disk.faults rows main
    (λ p. p ∷ p ∷ simplified p ∷ simplified p ∷ simplified (simplified p) ∷ []) (λ p. simplified (simplified p)) c.args.loader.now
    c.simplify_noted.new.loader rows two (λ p. pruned p ∷ []) pruned c.prune_noted.new.loader x.shapes h) c.prune_noted.ensures.made

pub returns-in-Ok-simplify_noted-clause-cost : goal.returns-in-Ok-simplify_noted-clause-cost
returns-in-Ok-simplify_noted-clause-cost g c = λ p h.
    let rows = c.args.shapes in let main = c.args.main in
    let two = made_on g.D.Disk.reach g.D.Disk.honest g.D.Disk.faults rows main (λ p. p ∷ p ∷ simplified p ∷ simplified p ∷ []) simplified c.args.loader.now
    c.begin_pass.new.loader rows (c.in-Ok.ensures.made main) (λ p. simplified p ∷ []) simplified c.simplify_noted.new.loader rows
    (c.in-Ok-simplify_noted.ensures.made main) in
    c.prune_noted.ensures.cost (simplified (simplified p)) (two.program p h).holds

pub returns-in-Ok-simplify_noted-clause-err : goal.returns-in-Ok-simplify_noted-clause-err
returns-in-Ok-simplify_noted-clause-err g c =
    let rows = c.args.shapes in let main = c.args.main in
    let two = made_on g.D.Disk.reach g.D.Disk.honest g.D.Disk.faults rows main (λ p. p ∷ p ∷ simplified p ∷ simplified p ∷ []) simplified c.args.loader.now
    c.begin_pass.new.loader rows (c.in-Ok.ensures.made main) (λ p. simplified p ∷ []) simplified c.simplify_noted.new.loader rows
    (c.in-Ok-simplify_noted.ensures.made main) in
    err_so _ _ c.prune_noted.result
    (λ e h. stops_so g.D.Disk.reach g.D.Disk.honest g.D.Disk.faults rows main
    (λ p. p ∷ p ∷ simplified p ∷ simplified p ∷ simplified (simplified p) ∷ []) pass_programs
    (λ p q n h. need_left (p ∷ p ∷ simplified p ∷ simplified p ∷ simplified (simplified p) ∷ []) (passed p ∷ []) q n h)
    c.args.loader.now c.prune_noted.new.loader e
    (stops_on g.D.Disk.reach g.D.Disk.honest g.D.Disk.faults rows main
    (λ p. p ∷ p ∷ simplified p ∷ simplified p ∷ simplified (simplified p) ∷ []) (λ p. simplified (simplified p)) c.args.loader.now
    c.simplify_noted.new.loader rows two (λ p. []) c.prune_noted.new.loader e h)) c.prune_noted.ensures.err

pub returns-in-Err-simplify_noted-clause-err : goal.returns-in-Err-simplify_noted-clause-err
returns-in-Err-simplify_noted-clause-err g c =
    let rows = c.args.shapes in let main = c.args.main in
    stops_so g.D.Disk.reach g.D.Disk.honest g.D.Disk.faults rows main
    (λ p. p ∷ p ∷ simplified p ∷ simplified p ∷ simplified (simplified p) ∷ []) pass_programs
    (λ p q n h. need_left (p ∷ p ∷ simplified p ∷ simplified p ∷ simplified (simplified p) ∷ []) (passed p ∷ []) q n h)
    c.args.loader.now c.simplify_noted.new.loader c.in-Err-simplify_noted.failure
    (stops_on g.D.Disk.reach g.D.Disk.honest g.D.Disk.faults rows main (λ p. p ∷ p ∷ simplified p ∷ simplified p ∷ []) simplified c.args.loader.now
    c.begin_pass.new.loader rows (c.in-Ok.ensures.made main) (λ p. simplified p ∷ []) c.simplify_noted.new.loader c.in-Err-simplify_noted.failure
    (c.in-Err-simplify_noted.ensures.err main))
