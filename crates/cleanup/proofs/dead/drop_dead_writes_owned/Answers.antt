use Rattle.std.proofs.Common.{◌∙◌, refl, ap, sym, subst}
use Rattle.il_core.specs.Limits.{IsWithinLimits}
use Rattle.il_core.specs.contracts.routine.Routine.{the_view}
use Rattle.il_laws.specs.Live.{drop_dead_writes}
use Rattle.il_laws.proofs.Within.{dead_within}
use Rattle.const_prop.specs.Tables.{IsValidRoutine}
use Rattle.const_prop.proofs.Whole.{named_as}
use Rattle.cleanup.proofs.Folding.{ends_as}
use Rattle.cleanup.proofs.Thinning.{few_blocks, forward_as, thinned_is}
use Rattle.cleanup.proofs.dead.drop_dead_writes_owned.Goals as goal

pub drop_dead-requires-clause-few : goal.drop_dead-requires-clause-few
drop_dead-requires-clause-few c =
    few_blocks (the_view c.r.inside) c.into_vec-blocks.result.items c.as_mut_slice.result.now c.r.invariant.size c.as_mut_slice.ensures.value
    c.into_vec-blocks.ensures

pub drop_dead-requires-clause-named : goal.drop_dead-requires-clause-named
drop_dead-requires-clause-named c =
    named_as (the_view c.r.inside) c.r.inside.regs c.into_vec-blocks.result.items c.as_mut_slice.result.now
    (subst IsValidRoutine (sym c.r.view_is) c.requires) refl c.as_mut_slice.ensures.value c.into_vec-blocks.ensures

pub drop_dead-requires-clause-ends : goal.drop_dead-requires-clause-ends
drop_dead-requires-clause-ends c =
    ends_as (the_view c.r.inside) c.r.inside.regs c.into_vec-blocks.result.items c.as_mut_slice.result.now
    (subst IsValidRoutine (sym c.r.view_is) c.requires) refl c.as_mut_slice.ensures.value c.into_vec-blocks.ensures

pub drop_dead-requires-clause-forward : goal.drop_dead-requires-clause-forward
drop_dead-requires-clause-forward c =
    forward_as (the_view c.r.inside) c.into_vec-blocks.result.items c.as_mut_slice.result.now
    (subst IsValidRoutine (sym c.r.view_is) c.requires) c.as_mut_slice.ensures.value c.into_vec-blocks.ensures

pub invariant_of-result : goal.invariant_of-result
invariant_of-result c =
    subst IsWithinLimits
    (sym (thinned_is (the_view c.r.inside) c.into_vec-blocks.result.len c.into_vec-blocks.result.items c.as_mut_slice.result.now c.drop_dead.new.blocks _
    c.from_vec.result c.from_vec.ensures (c.drop_dead.auto.blocks ∙ c.as_mut_slice.ensures.len) c.as_mut_slice.ensures.value c.into_vec-blocks.ensures
    c.in_ok-drop_dead.ensures)) (dead_within (the_view c.r.inside) c.r.invariant)

pub returns : goal.returns
returns c =
    thinned_is (the_view c.r.inside) c.into_vec-blocks.result.len c.into_vec-blocks.result.items c.as_mut_slice.result.now c.drop_dead.new.blocks _
    c.from_vec.result c.from_vec.ensures (c.drop_dead.auto.blocks ∙ c.as_mut_slice.ensures.len) c.as_mut_slice.ensures.value c.into_vec-blocks.ensures
    c.in_ok-drop_dead.ensures ∙ ap drop_dead_writes c.r.view_is
