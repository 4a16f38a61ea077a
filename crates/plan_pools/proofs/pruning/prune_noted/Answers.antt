use Rattle.std.proofs.Common.{[], ◌∷◌}
use Rattle.il_laws.specs.Reach.{pruned}
use Rattle.one_owner.proofs.Frames.{err_so, ok_so}
use Rattle.plan_pools.proofs.Plans.{made_on, stops_on}
use Rattle.plan_pools.proofs.Steps.{before_seen, seen_made, seen_stops}
use Rattle.plan_pools.proofs.pruning.prune_noted.Goals as goal

pub returns-in-Ok-clause-made : goal.returns-in-Ok-clause-made
returns-in-Ok-clause-made g c =
    let rows = c.args.shapes in let old = c.args.loader.now in let mid = c.summarise_program.new.loader in
    let seen = seen_made g.D.Disk.reach g.D.Disk.honest g.D.Disk.faults rows c.args.main old mid c.requires.pools c.in-Ok.ensures.ok in
    ok_so _ _ c.prune_known.result
    (λ x h. made_on g.D.Disk.reach g.D.Disk.honest g.D.Disk.faults rows c.args.main (λ p. []) (λ p. p) old mid rows seen
    (λ p. pruned p ∷ []) pruned c.prune_known.new.loader x.shapes h)
    (c.prune_known.ensures.made (λ p h.
    let b = before_seen g.D.Disk.reach g.D.Disk.honest g.D.Disk.faults rows c.args.main old mid c.in-Ok.ensures.ok p h in
    c.in-Ok.ensures.graph p b.trusted b.valid b.shapes b.contents))

pub returns-in-Ok-clause-cost : goal.returns-in-Ok-clause-cost
returns-in-Ok-clause-cost g c = λ p h.
    c.prune_known.ensures.cost p h.shapes h.main_is (c.in-Ok.ensures.graph p h.trusted h.valid h.shapes h.contents)

pub returns-in-Ok-clause-err : goal.returns-in-Ok-clause-err
returns-in-Ok-clause-err g c =
    let rows = c.args.shapes in let old = c.args.loader.now in let mid = c.summarise_program.new.loader in
    let seen = seen_made g.D.Disk.reach g.D.Disk.honest g.D.Disk.faults rows c.args.main old mid c.requires.pools c.in-Ok.ensures.ok in
    err_so _ _ c.prune_known.result
    (λ e h. stops_on g.D.Disk.reach g.D.Disk.honest g.D.Disk.faults rows c.args.main (λ p. []) (λ p. p) old mid rows seen
    (λ p. []) c.prune_known.new.loader e h) c.prune_known.ensures.err

pub returns-in-Err-clause-err : goal.returns-in-Err-clause-err
returns-in-Err-clause-err g c =
    seen_stops g.D.Disk.reach g.D.Disk.honest g.D.Disk.faults c.args.shapes c.args.main c.args.loader.now c.summarise_program.new.loader
    c.in-Err.failure c.in-Err.ensures.err
