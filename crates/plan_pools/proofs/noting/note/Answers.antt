use Rattle.plan_pools.proofs.Steps.{note_made, note_pools}
use Rattle.plan_pools.proofs.noting.note.Goals as goal

pub returns-clause-made : goal.returns-clause-made
returns-clause-made g c = λ rows main have.
    note_made g.D.Disk.reach g.D.Disk.honest g.D.Disk.faults rows main c.args.loader.now c.mark.new.self c.requires.rests have
    c.mark.ensures.differ c.mark.ensures.marked

pub returns-clause-pools : goal.returns-clause-pools
returns-clause-pools g c = λ rows have.
    note_pools g.D.Disk.reach g.D.Disk.honest g.D.Disk.faults rows c.args.loader.now c.mark.new.self have c.mark.ensures.marked
