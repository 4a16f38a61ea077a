use Rattle.std.proofs.Common.{◌∙◌, ap, sym, subst}
use Rattle.il_core.specs.Limits.{IsWithinLimits}
use Rattle.il_core.specs.contracts.routine.Routine.{the_view}
use Rattle.il_laws.specs.Merge.{merge_blocks}
use Rattle.il_laws.proofs.Within.{merge_blocks_within}
use Rattle.const_prop.specs.Tables.{IsValidRoutine}
use Rattle.cleanup.proofs.Keeping.{names_as}
use Rattle.cleanup.proofs.Thinning.{few_blocks, forward_as}
use Rattle.cleanup.proofs.Joining.{merged_as}
use Rattle.cleanup.proofs.merge.merge_blocks_owned.Goals as goal

pub merge-requires-clause-few : goal.merge-requires-clause-few
merge-requires-clause-few c =
    few_blocks (the_view c.r.inside) c.into_vec-blocks.result.items c.as_mut_slice.result.now c.r.invariant.size c.as_mut_slice.ensures.value
    c.into_vec-blocks.ensures

pub merge-requires-clause-inside : goal.merge-requires-clause-inside
merge-requires-clause-inside c =
    names_as (the_view c.r.inside) c.into_vec-blocks.result.items c.as_mut_slice.result.now (subst IsValidRoutine (sym c.r.view_is) c.requires)
    c.as_mut_slice.ensures.value c.into_vec-blocks.ensures

pub merge-requires-clause-forward : goal.merge-requires-clause-forward
merge-requires-clause-forward c =
    forward_as (the_view c.r.inside) c.into_vec-blocks.result.items c.as_mut_slice.result.now
    (subst IsValidRoutine (sym c.r.view_is) c.requires) c.as_mut_slice.ensures.value c.into_vec-blocks.ensures

pub invariant_of-result : goal.invariant_of-result
invariant_of-result c =
    subst IsWithinLimits
    (sym (merged_as (the_view c.r.inside) c.into_vec-blocks.result.items c.as_mut_slice.result.now c.in_ok-kept.kept.items c.from_vec.result
    c.from_vec.ensures c.in_ok-kept.ensures c.as_mut_slice.ensures.value c.into_vec-blocks.ensures)) (merge_blocks_within (the_view c.r.inside) c.r.invariant)

pub returns : goal.returns
returns c =
    merged_as (the_view c.r.inside) c.into_vec-blocks.result.items c.as_mut_slice.result.now c.in_ok-kept.kept.items c.from_vec.result
    c.from_vec.ensures c.in_ok-kept.ensures c.as_mut_slice.ensures.value c.into_vec-blocks.ensures ∙ ap merge_blocks c.r.view_is
