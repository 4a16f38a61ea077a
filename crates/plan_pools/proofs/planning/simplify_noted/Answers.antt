use Rattle.std.proofs.Common.{[], ◌∷◌}
use Rattle.plan_pools.specs.Budgetless.{simplified}
use Rattle.plan_pools.proofs.Plans.{made_on}
use Rattle.plan_pools.proofs.Steps.{simplified_made, simplified_stops}
use Rattle.plan_pools.proofs.planning.simplify_noted.Goals as goal

pub returns-in-Ok-clause-made : goal.returns-in-Ok-clause-made
returns-in-Ok-clause-made g c = λ main.
    let rows = c.args.shapes.now in
    let made = simplified_made g.D.Disk.reach g.D.Disk.honest g.D.Disk.faults rows main c.args.loader.now c.simplify_program.new.loader
    c.requires.pools c.in-Ok.ensures.ok in
    made_on g.D.Disk.reach g.D.Disk.honest g.D.Disk.faults rows main (λ p. []) simplified c.args.loader.now c.simplify_program.new.loader rows made
    (λ p. p ∷ []) (λ p. p) c.note.new.loader rows (c.note.ensures.made rows main made.pools)

pub returns-in-Err-clause-err : goal.returns-in-Err-clause-err
returns-in-Err-clause-err g c = λ main.
    simplified_stops g.D.Disk.reach g.D.Disk.honest g.D.Disk.faults c.args.shapes.now main c.args.loader.now c.simplify_program.new.loader
    c.in-Err.failure c.in-Err.ensures.err
