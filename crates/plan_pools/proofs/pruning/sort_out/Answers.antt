use Rattle.std.proofs.Common.{nat_eq, not, subst, sym, ◌∙◌}
use Rattle.std.specs.List.{IsDistinct}
use Rattle.il_core.specs.Shapes.{IsRising}
use Rattle.il_core.specs.declared.shape.ShapeRow.{ShapeRow}
use Rattle.il_laws.specs.Reach.{is_in, stays}
use Rattle.il_laws.proofs.Kept.{filter_rising}
use Rattle.plan_pools.proofs.Sorting.{distinct_filter}
use Rattle.plan_pools.proofs.pruning.sort_out.Goals as goal

pub invariant_of-shapes : goal.invariant_of-shapes
invariant_of-shapes c =
    subst (IsRising (λ (row : ShapeRow). row.pid)) (sym (c.from_vec.ensures ∙ c.in_ok-rows.ensures))
    (filter_rising (stays (is_in c.as_slice-4.result.now)) (λ row. row.pid) c.into_vec.result.items
    (subst (IsRising (λ (row : ShapeRow). row.pid)) (sym c.into_vec.ensures) c.shapes.invariant))

pub returns-clause-differ : goal.returns-clause-differ
returns-clause-differ c =
    subst (IsDistinct nat_eq) (sym c.in_ok-dead.ensures)
    (distinct_filter (λ p. not (is_in c.as_slice-2.result.now p)) c.as_slice.result.now
    (subst (IsDistinct nat_eq) (sym (c.as_slice.ensures.value ∙ c.in_ok-pids.ensures.pids)) c.in_ok-pids.ensures.differ))
