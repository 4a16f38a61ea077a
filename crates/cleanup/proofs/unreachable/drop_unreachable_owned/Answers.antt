use Rattle.std.proofs.Common.{◌≤◌, ◌^◌, ◌∙◌, Bool, List, ap, sym, subst, length}
use Rattle.il_core.specs.Limits.{IsWithinLimits}
use Rattle.il_core.specs.contracts.routine.Routine.{the_view}
use Rattle.il_laws.specs.Unreachable.{drop_unreachable}
use Rattle.il_laws.proofs.Within.{unreachable_within}
use Rattle.const_prop.specs.Tables.{IsValidRoutine}
use Rattle.cleanup.specs.Marks.{AreLeast}
use Rattle.cleanup.proofs.Keeping.{names_as, some_as, few_as, size_as, dropped_is}
use Rattle.cleanup.proofs.unreachable.drop_unreachable_owned.Goals as goal

pub reach-requires-clause-some : goal.reach-requires-clause-some
reach-requires-clause-some c =
    some_as (the_view c.r.inside) c.into_vec-blocks.result.items c.as_slice.result.now (subst IsValidRoutine (sym c.r.view_is) c.requires)
    c.as_slice.ensures.value c.into_vec-blocks.ensures

pub reach-requires-clause-inside : goal.reach-requires-clause-inside
reach-requires-clause-inside c =
    names_as (the_view c.r.inside) c.into_vec-blocks.result.items c.as_slice.result.now (subst IsValidRoutine (sym c.r.view_is) c.requires)
    c.as_slice.ensures.value c.into_vec-blocks.ensures

pub keep_marked-requires-clause-size : goal.keep_marked-requires-clause-size
keep_marked-requires-clause-size c =
    ap (λ (ms : List Bool). length ms) c.as_slice-2.ensures.value
    ∙ size_as c.into_vec-blocks.result.items c.as_slice.result.now c.as_mut_slice.result.now c.in_ok-marks.marks.items c.in_ok-marks.ensures
    c.as_slice.ensures.value c.as_mut_slice.ensures.value

pub keep_marked-requires-clause-few : goal.keep_marked-requires-clause-few
keep_marked-requires-clause-few c =
    let few : length c.in_ok-marks.marks.items ≤ 2 ^ 16 =
    few_as (the_view c.r.inside) c.into_vec-blocks.result.items c.as_slice.result.now c.in_ok-marks.marks.items c.r.invariant.size c.in_ok-marks.ensures
    c.as_slice.ensures.value c.into_vec-blocks.ensures in
    subst (λ (ms : List Bool). length ms ≤ 2 ^ 16) (sym c.as_slice-2.ensures.value) few

pub keep_marked-requires-clause-inside : goal.keep_marked-requires-clause-inside
keep_marked-requires-clause-inside c =
    names_as (the_view c.r.inside) c.into_vec-blocks.result.items c.as_mut_slice.result.now (subst IsValidRoutine (sym c.r.view_is) c.requires)
    c.as_mut_slice.ensures.value c.into_vec-blocks.ensures

pub invariant_of-result : goal.invariant_of-result
invariant_of-result c =
    subst IsWithinLimits
    (sym (dropped_is (the_view c.r.inside) c.into_vec-blocks.result.items c.as_slice.result.now c.as_mut_slice.result.now c.in_ok-kept.kept.items
    c.from_vec.result c.as_slice-2.result.now (subst IsValidRoutine (sym c.r.view_is) c.requires) c.as_slice.ensures.value c.into_vec-blocks.ensures
    (subst (AreLeast c.as_slice.result.now) (sym c.as_slice-2.ensures.value) c.in_ok-marks.ensures) c.as_mut_slice.ensures.value
    c.in_ok-kept.ensures c.from_vec.ensures))
    (unreachable_within (the_view c.r.inside) c.r.invariant)

pub returns : goal.returns
returns c =
    dropped_is (the_view c.r.inside) c.into_vec-blocks.result.items c.as_slice.result.now c.as_mut_slice.result.now c.in_ok-kept.kept.items
    c.from_vec.result c.as_slice-2.result.now (subst IsValidRoutine (sym c.r.view_is) c.requires) c.as_slice.ensures.value c.into_vec-blocks.ensures
    (subst (AreLeast c.as_slice.result.now) (sym c.as_slice-2.ensures.value) c.in_ok-marks.ensures) c.as_mut_slice.ensures.value
    c.in_ok-kept.ensures c.from_vec.ensures ∙ ap drop_unreachable c.r.view_is
