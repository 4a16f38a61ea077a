use Rattle.std.proofs.Common.{[], ◌∷◌}
use Rattle.one_owner.proofs.Frames.{err_so, ok_so}
use Rattle.plan_pools.proofs.Plans.{made_on, need_left, stops_on, stops_so}
use Rattle.plan_pools.proofs.Steps.{before_seen, seen_made}
use Rattle.inline_steps.specs.Steps.{inlined}
use Rattle.inline_steps.proofs.inlining.inline_noted.Goals as goal

pub returns-in-Ok-clause-made : goal.returns-in-Ok-clause-made
returns-in-Ok-clause-made g c =
    let rows = c.args.shapes.now in let old = c.args.loader.now in let mid = c.summarise_linked.new.loader in
    let main = c.args.main in let limit = c.args.limit in
    let seen = seen_made g.D.Disk.reach g.D.Disk.honest g.D.Disk.faults rows main old mid c.requires.pools c.in-Ok.ensures.ok in
    ok_so _ _ c.inline_known.result
    (λ x h. made_on g.D.Disk.reach g.D.Disk.honest g.D.Disk.faults rows main (λ p. []) (λ p. p) old mid rows seen
    (λ p. inlined main limit p ∷ []) (inlined main limit) c.inline_known.new.loader rows h)
    (c.inline_known.ensures.made (λ p h.
    let b = before_seen g.D.Disk.reach g.D.Disk.honest g.D.Disk.faults rows main old mid c.in-Ok.ensures.ok p h in
    c.in-Ok.ensures.graph p b.trusted b.valid b.shapes b.contents))

pub returns-in-Ok-clause-err : goal.returns-in-Ok-clause-err
returns-in-Ok-clause-err g c =
    let rows = c.args.shapes.now in let old = c.args.loader.now in let mid = c.summarise_linked.new.loader in
    let main = c.args.main in let limit = c.args.limit in
    let seen = seen_made g.D.Disk.reach g.D.Disk.honest g.D.Disk.faults rows main old mid c.requires.pools c.in-Ok.ensures.ok in
    err_so _ _ c.inline_known.result
    (λ e h. stops_on g.D.Disk.reach g.D.Disk.honest g.D.Disk.faults rows main (λ p. []) (λ p. p) old mid rows seen
    (λ p. inlined main limit p ∷ []) c.inline_known.new.loader e h)
    (c.inline_known.ensures.err (λ p h.
    let b = before_seen g.D.Disk.reach g.D.Disk.honest g.D.Disk.faults rows main old mid c.in-Ok.ensures.ok p h in
    c.in-Ok.ensures.graph p b.trusted b.valid b.shapes b.contents))

pub returns-in-Err-clause-err : goal.returns-in-Err-clause-err
returns-in-Err-clause-err g c =
    let main = c.args.main in let limit = c.args.limit in
    stops_so g.D.Disk.reach g.D.Disk.honest g.D.Disk.faults c.args.shapes.now main (λ p. []) (λ p. inlined main limit p ∷ [])
    (λ p q n h. need_left [] (inlined main limit p ∷ []) q n h) c.args.loader.now c.summarise_linked.new.loader c.in-Err.failure
    (c.in-Err.ensures.err main)
