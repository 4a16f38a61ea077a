use Rattle.std.proofs.Common.{[], ◌∷◌, ◌<◌, ◌^◌, nat_eq, not, subst, sym, IsSome, ◌∙◌}
use Rattle.std.specs.List.{AllByRecursion, IsDistinct}
use Rattle.il_core.specs.declared.shape.ShapeRow.{ShapeRow}
use Rattle.il_laws.specs.Reach.{is_in, pruned, stays}
use Rattle.il_laws.proofs.Kept.{filter_all}
use Rattle.naim_loader.specs.Paged.{kept_at}
use Rattle.plan_laws.specs.Dead.{reachable}
use Rattle.plan_pools.specs.Contents.{routine_pids}
use Rattle.plan_pools.proofs.Plans.{made_on}
use Rattle.plan_pools.proofs.Sorting.{cost_of_left, pruned_made}
use Rattle.plan_pools.proofs.pruning.prune_known.Goals as goal

pub drop_all-requires-clause-present : goal.drop_all-requires-clause-present
drop_all-requires-clause-present g c =
    subst (AllByRecursion (λ p. IsSome (kept_at c.args.loader.now p))) (sym (c.as_slice.ensures.value ∙ c.in-Ok.ensures.dead))
    (filter_all (λ p. not (is_in (reachable c.args.graph.now c.args.main) p)) (λ p. IsSome (kept_at c.args.loader.now p)) (routine_pids c.args.shapes)
    c.requires.pools)

pub drop_all-requires-clause-differ : goal.drop_all-requires-clause-differ
drop_all-requires-clause-differ g c = subst (IsDistinct nat_eq) (sym c.as_slice.ensures.value) c.in-Ok.ensures.differ

pub returns-in-Ok-clause-made : goal.returns-in-Ok-clause-made
returns-in-Ok-clause-made g c = λ known.
    let left = c.in-Ok.sorted.shapes in
    let made = pruned_made g.D.Disk.reach g.D.Disk.honest g.D.Disk.faults c.args.shapes c.args.main c.args.graph.now c.args.loader.now c.drop_all.new.loader
    left c.as_slice.result.now c.in-Ok.ensures.left (c.as_slice.ensures.value ∙ c.in-Ok.ensures.dead) c.requires.pools c.drop_all.ensures.drops
    c.drop_all.ensures.pruned known in
    made_on g.D.Disk.reach g.D.Disk.honest g.D.Disk.faults c.args.shapes c.args.main (λ p. []) pruned c.args.loader.now c.drop_all.new.loader left made
    (λ p. p ∷ []) (λ p. p) c.note.new.loader left (c.note.ensures.made left c.args.main made.pools)

pub returns-in-Ok-clause-cost : goal.returns-in-Ok-clause-cost
returns-in-Ok-clause-cost g c = λ p shapes is known small.
    let same = cost_of_left g.D.Disk.reach g.D.Disk.honest g.D.Disk.faults c.args.shapes c.args.main c.args.graph.now p is known in
    c.in-Ok.ensures.cost (subst (λ n. n < 2 ^ 64) (sym same) small) ∙ same

pub returns-in-Ok-clause-below : goal.returns-in-Ok-clause-below
returns-in-Ok-clause-below g c = λ n below.
    subst (AllByRecursion (λ (row : ShapeRow). row.pid < n)) (sym c.in-Ok.ensures.left)
    (filter_all (stays (is_in (reachable c.args.graph.now c.args.main))) (λ (row : ShapeRow). row.pid < n) c.args.shapes below)
