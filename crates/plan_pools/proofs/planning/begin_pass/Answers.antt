use Rattle.std.proofs.Common.{[], ◌∷◌}
use Rattle.plan_pools.specs.Budgetless.{simplified}
use Rattle.plan_pools.proofs.Plans.{made_on, need_left, stops_on, stops_so}
use Rattle.plan_pools.proofs.planning.begin_pass.Goals as goal

pub note-requires-in-Ok : goal.note-requires-in-Ok
note-requires-in-Ok g c = record { rests = (c.in-Ok.ensures.made 0).rests }

pub returns-in-Ok-clause-made : goal.returns-in-Ok-clause-made
returns-in-Ok-clause-made g c = λ main.
    let rows = c.args.shapes.now in
    let first = c.note.ensures.made rows main c.requires.pools in
    let both = made_on g.D.Disk.reach g.D.Disk.honest g.D.Disk.faults rows main (λ p. p ∷ []) (λ p. p) c.args.loader.now c.note.new.loader rows first
    (λ p. p ∷ []) (λ p. p) c.note-2.new.loader rows (c.note-2.ensures.made rows main first.pools) in
    let third = c.in-Ok.ensures.made main in
    let three = made_on g.D.Disk.reach g.D.Disk.honest g.D.Disk.faults rows main (λ p. p ∷ p ∷ []) (λ p. p) c.args.loader.now c.note-2.new.loader rows both
    (λ p. simplified p ∷ []) simplified c.simplify_noted.new.loader rows third in
    made_on g.D.Disk.reach g.D.Disk.honest g.D.Disk.faults rows main (λ p. p ∷ p ∷ simplified p ∷ []) simplified c.args.loader.now
    c.simplify_noted.new.loader rows three (λ p. p ∷ []) (λ p. p) c.note-in-Ok.new.loader rows (c.note-in-Ok.ensures.made rows main third.pools)

pub returns-in-Err-clause-err : goal.returns-in-Err-clause-err
returns-in-Err-clause-err g c = λ main.
    let rows = c.args.shapes.now in
    let first = c.note.ensures.made rows main c.requires.pools in
    let both = made_on g.D.Disk.reach g.D.Disk.honest g.D.Disk.faults rows main (λ p. p ∷ []) (λ p. p) c.args.loader.now c.note.new.loader rows first
    (λ p. p ∷ []) (λ p. p) c.note-2.new.loader rows (c.note-2.ensures.made rows main first.pools) in
    let stops = stops_on g.D.Disk.reach g.D.Disk.honest g.D.Disk.faults rows main (λ p. p ∷ p ∷ []) (λ p. p) c.args.loader.now c.note-2.new.loader rows both
    (λ p. simplified p ∷ []) c.simplify_noted.new.loader c.in-Err.failure (c.in-Err.ensures.err main) in
    stops_so g.D.Disk.reach g.D.Disk.honest g.D.Disk.faults rows main (λ p. p ∷ p ∷ simplified p ∷ []) (λ p. p ∷ p ∷ simplified p ∷ simplified p ∷ [])
    (λ p q n h. need_left (p ∷ p ∷ simplified p ∷ []) (simplified p ∷ []) q n h) c.args.loader.now c.simplify_noted.new.loader c.in-Err.failure stops
