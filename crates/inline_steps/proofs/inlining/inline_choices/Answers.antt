use Rattle.std.proofs.Common.{[], ◌∷◌}
use Rattle.inline_budget.specs.Calls.{calls_of}
use Rattle.plan_pools.proofs.Plans.{made_on}
use Rattle.inline_steps.specs.Steps.{inlined}
use Rattle.inline_steps.proofs.Inlined.{inlined_made, inlined_stops}
use Rattle.inline_steps.proofs.inlining.inline_choices.Goals as goal

pub returns-in-Ok-clause-made : goal.returns-in-Ok-clause-made
returns-in-Ok-clause-made g c = λ main limit known.
    let rows = c.args.shapes.now in let old = c.args.loader.now in let mid = c.inline_program.new.loader in
    let made = inlined_made g.D.Disk.reach g.D.Disk.honest g.D.Disk.faults g.D.Disk.bytes rows main limit (calls_of c.args.choices.now) old mid
    c.stands.ensures known c.requires.pools c.in-Ok.ensures.ok c.in-Ok.ensures.program in
    made_on g.D.Disk.reach g.D.Disk.honest g.D.Disk.faults rows main (λ p. []) (inlined main limit) old mid rows made
    (λ p. p ∷ []) (λ p. p) c.note.new.loader rows (c.note.ensures.made rows main made.pools)

pub returns-in-Err-clause-err : goal.returns-in-Err-clause-err
returns-in-Err-clause-err g c = λ main limit known.
    inlined_stops g.D.Disk.reach g.D.Disk.honest g.D.Disk.faults g.D.Disk.bytes c.args.shapes.now main limit (calls_of c.args.choices.now)
    c.args.loader.now c.inline_program.new.loader c.stands.ensures known c.in-Err.failure c.in-Err.ensures.err
