use Rattle.std.proofs.Common.{subst, sym}
use Rattle.plan_laws.specs.Plan.{final, plan}
use Rattle.plan_pools.specs.Planning.{IsCost}
use Rattle.plan_driver.specs.Optimising.{Optimises}
use Rattle.plan_driver.proofs.Whole.{passes_cost, passes_made, passes_stop, start_stops}
use Rattle.plan_driver.proofs.optimising.optimise_within.Goals as goal

pub run_passes-requires-clause-ready : goal.run_passes-requires-clause-ready
run_passes-requires-clause-ready g c = (c.in-Ok.ensures.made 0).ready

pub run_passes-requires-clause-cost : goal.run_passes-requires-clause-cost
run_passes-requires-clause-cost g c = (c.in-Ok.ensures.made 0).most

pub returns-in-Ok-run_passes-clause-made : goal.returns-in-Ok-run_passes-clause-made
returns-in-Ok-run_passes-clause-made g c =
    let rows = c.args.shapes in let main = c.args.main in let s = c.in-Ok.begun in
    subst (Optimises g.D.Disk.reach g.D.Disk.honest g.D.Disk.faults (λ p. plan p c.args.budget c.args.passes)
    (λ p. final p c.args.budget c.args.passes) rows main
    c.args.loader.now c.run_passes.new.loader) (sym c.planned.ensures.shapes)
    (passes_made g.D.Disk.reach g.D.Disk.honest g.D.Disk.faults rows main c.args.loader.now c.args.budget c.args.passes c.passes_clone.ensures
    c.requires.names c.requires.some c.start_plan.new.loader s.names s.cost s.progress (c.in-Ok.ensures.made main) c.run_passes.new.loader
    c.in-Ok-run_passes.passed.progress c.in-Ok-run_passes.ensures.made)

pub returns-in-Ok-run_passes-clause-cost : goal.returns-in-Ok-run_passes-clause-cost
returns-in-Ok-run_passes-clause-cost g c = λ some p h.
    let rows = c.args.shapes in let main = c.args.main in let s = c.in-Ok.begun in
    subst (λ n. IsCost n (final p c.args.budget c.args.passes)) (sym c.planned.ensures.cost)
    (passes_cost g.D.Disk.reach g.D.Disk.honest g.D.Disk.faults rows main c.args.loader.now c.args.budget c.args.passes c.passes_clone.ensures
    c.requires.names c.requires.some c.start_plan.new.loader s.names s.cost s.progress (c.in-Ok.ensures.made main)
    c.in-Ok-run_passes.passed.cost (c.in-Ok-run_passes.ensures.cost some) p h)

pub returns-in-Ok-clause-err : goal.returns-in-Ok-clause-err
returns-in-Ok-clause-err g c =
    let rows = c.args.shapes in let main = c.args.main in let s = c.in-Ok.begun in
    passes_stop g.D.Disk.reach g.D.Disk.honest g.D.Disk.faults rows main c.args.loader.now c.args.budget c.args.passes c.passes_clone.ensures
    c.requires.names c.requires.some c.start_plan.new.loader s.names s.cost s.progress (c.in-Ok.ensures.made main) c.run_passes.new.loader
    c.in-Err-run_passes.failure c.in-Err-run_passes.ensures.err

pub returns-clause-err : goal.returns-clause-err
returns-clause-err g c =
    start_stops g.D.Disk.reach g.D.Disk.honest g.D.Disk.faults c.args.shapes c.args.main c.args.loader.now c.args.budget c.args.passes
    c.start_plan.new.loader c.in-Err.failure (c.in-Err.ensures.err c.args.main)
