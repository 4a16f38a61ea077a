use Rattle.std.proofs.Common.{◌∙◌, refl, ap, sym, subst}
use Rattle.il_core.specs.Limits.{IsWithinLimits}
use Rattle.il_core.specs.contracts.routine.Routine.{the_view}
use Rattle.il_laws.specs.Propagate.{fold_branches, folded_block}
use Rattle.il_laws.proofs.Within.{fold_within}
use Rattle.const_prop.specs.Tables.{IsValidRoutine}
use Rattle.const_prop.proofs.Whole.{named_as, owned_is}
use Rattle.cleanup.proofs.Folding.{ends_as}
use Rattle.cleanup.proofs.branches.fold_branches_owned.Goals as goal

pub new-requires : goal.new-requires
new-requires c =
    named_as (the_view c.r.inside) c.r.inside.regs c.into_vec-blocks.result.items c.as_slice.result.now
    (subst IsValidRoutine (sym c.r.view_is) c.requires) refl c.as_slice.ensures.value c.into_vec-blocks.ensures

pub fold_blocks-requires-clause-named : goal.fold_blocks-requires-clause-named
fold_blocks-requires-clause-named c =
    named_as (the_view c.r.inside) c.in_ok-flow.flow.regs c.into_vec-blocks.result.items c.as_mut_slice-2.result.now
    (subst IsValidRoutine (sym c.r.view_is) c.requires) c.in_ok-flow.ensures.regs c.as_mut_slice-2.ensures.value c.into_vec-blocks.ensures

pub invariant_of-result : goal.invariant_of-result
invariant_of-result c =
    subst IsWithinLimits
    (sym (owned_is folded_block (the_view c.r.inside) c.into_vec-blocks.result.len c.in_ok-flow.flow.params c.into_vec-blocks.result.items
    c.as_mut_slice-2.result.now c.fold_blocks.new.blocks _ c.from_vec.result
    c.from_vec.ensures (c.fold_blocks.auto.blocks
    ∙ c.as_mut_slice-2.ensures.len) c.as_mut_slice-2.ensures.value c.into_vec-blocks.ensures c.in_ok-flow.ensures.params c.in_ok-fold_blocks.ensures))
    (fold_within (the_view c.r.inside) c.r.invariant)

pub returns : goal.returns
returns c =
    owned_is folded_block (the_view c.r.inside) c.into_vec-blocks.result.len c.in_ok-flow.flow.params c.into_vec-blocks.result.items c.as_mut_slice-2.result.now
    c.fold_blocks.new.blocks _ c.from_vec.result
    c.from_vec.ensures (c.fold_blocks.auto.blocks
    ∙ c.as_mut_slice-2.ensures.len) c.as_mut_slice-2.ensures.value c.into_vec-blocks.ensures c.in_ok-flow.ensures.params c.in_ok-fold_blocks.ensures
    ∙ ap fold_branches c.r.view_is

pub fold_blocks-requires-clause-ends : goal.fold_blocks-requires-clause-ends
fold_blocks-requires-clause-ends c =
    ends_as (the_view c.r.inside) c.in_ok-flow.flow.regs c.into_vec-blocks.result.items c.as_mut_slice-2.result.now
    (subst IsValidRoutine (sym c.r.view_is) c.requires) c.in_ok-flow.ensures.regs c.as_mut_slice-2.ensures.value c.into_vec-blocks.ensures
