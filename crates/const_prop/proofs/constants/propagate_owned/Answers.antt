use Rattle.std.proofs.Common.{◌∙◌, refl, ap, sym, subst}
use Rattle.il_core.specs.Limits.{IsWithinLimits}
use Rattle.il_core.specs.contracts.routine.Routine.{the_view}
use Rattle.il_laws.specs.Propagate.{propagate, propagated_block}
use Rattle.il_laws.proofs.Within.{propagate_within}
use Rattle.const_prop.specs.Tables.{IsValidRoutine}
use Rattle.const_prop.proofs.Whole.{named_as, owned_is}
use Rattle.const_prop.proofs.constants.propagate_owned.Goals as goal

pub new-requires : goal.new-requires
new-requires c =
    named_as (the_view c.r.inside) c.r.inside.regs c.into_vec-blocks.result.items c.as_slice.result.now
    (subst IsValidRoutine (sym c.r.view_is) c.requires) refl c.as_slice.ensures.value c.into_vec-blocks.ensures

pub propagate_blocks-requires-clause-named : goal.propagate_blocks-requires-clause-named
propagate_blocks-requires-clause-named c =
    named_as (the_view c.r.inside) c.in_ok-flow.flow.regs c.into_vec-blocks.result.items c.as_mut_slice-2.result.now
    (subst IsValidRoutine (sym c.r.view_is) c.requires) c.in_ok-flow.ensures.regs c.as_mut_slice-2.ensures.value c.into_vec-blocks.ensures

pub invariant_of-result : goal.invariant_of-result
invariant_of-result c =
    subst IsWithinLimits
    (sym (owned_is propagated_block (the_view c.r.inside) c.into_vec-blocks.result.len c.in_ok-flow.flow.params c.into_vec-blocks.result.items
    c.as_mut_slice-2.result.now c.propagate_blocks.new.blocks _ c.from_vec.result
    c.from_vec.ensures (c.propagate_blocks.auto.blocks ∙ c.as_mut_slice-2.ensures.len) c.as_mut_slice-2.ensures.value c.into_vec-blocks.ensures
    c.in_ok-flow.ensures.params c.in_ok-propagate_blocks.ensures))
    (propagate_within (the_view c.r.inside) c.r.invariant)

pub returns : goal.returns
returns c =
    owned_is propagated_block (the_view c.r.inside) c.into_vec-blocks.result.len c.in_ok-flow.flow.params c.into_vec-blocks.result.items
    c.as_mut_slice-2.result.now c.propagate_blocks.new.blocks _ c.from_vec.result
    c.from_vec.ensures (c.propagate_blocks.auto.blocks ∙ c.as_mut_slice-2.ensures.len) c.as_mut_slice-2.ensures.value c.into_vec-blocks.ensures
    c.in_ok-flow.ensures.params c.in_ok-propagate_blocks.ensures ∙ ap propagate c.r.view_is
