use Rattle.std.proofs.Common.{◌≡◌, ◌∙◌, ap, sym, subst}
use Rattle.il_core.specs.Limits.{IsWithinLimits}
use Rattle.il_core.specs.Routine.{RoutineParts}
use Rattle.il_core.specs.contracts.routine.Routine.{the_view}
use Rattle.il_laws.specs.Retarget.{retarget}
use Rattle.clone_groups.specs.Moves.{moves_of, sites_of_blocks}
use Rattle.clone_groups.proofs.Moving.{owned_is, retarget_within}
use Rattle.clone_groups.proofs.retargeting.retarget_owned.Goals as goal

pub invariant_of-result : goal.invariant_of-result
invariant_of-result c =
    let was : c.as_mut_slice.result.now ≡ (the_view c.r.inside).blocks = c.as_mut_slice.ensures.value ∙ c.into_vec-blocks.ensures in
    let count : c.count_sites-sites.result ≡ sites_of_blocks c.as_mut_slice.result.now
    = c.count_sites-sites.ensures ∙ ap sites_of_blocks (c.as_slice.ensures.value ∙ sym c.as_mut_slice.ensures.value) in
    subst IsWithinLimits
    (sym (owned_is (the_view c.r.inside) c.args.moves.now c.into_vec-blocks.result.len c.count_sites-sites.result c.in_ok-table.table.items
    c.as_slice-2.result.now
    c.as_mut_slice.result.now c.retarget_blocks.new.blocks _ c.from_vec.result c.from_vec.ensures (c.retarget_blocks.auto.blocks ∙ c.as_mut_slice.ensures.len)
    was count
    c.in_ok-table.ensures.moves c.as_slice-2.ensures.value c.retarget_blocks.ensures))
    (retarget_within c.args.moves.now c.requires (the_view c.r.inside) c.r.invariant)

pub returns : goal.returns
returns c =
    let was : c.as_mut_slice.result.now ≡ (the_view c.r.inside).blocks = c.as_mut_slice.ensures.value ∙ c.into_vec-blocks.ensures in
    let count : c.count_sites-sites.result ≡ sites_of_blocks c.as_mut_slice.result.now
    = c.count_sites-sites.ensures ∙ ap sites_of_blocks (c.as_slice.ensures.value ∙ sym c.as_mut_slice.ensures.value) in
    owned_is (the_view c.r.inside) c.args.moves.now c.into_vec-blocks.result.len c.count_sites-sites.result c.in_ok-table.table.items c.as_slice-2.result.now
    c.as_mut_slice.result.now c.retarget_blocks.new.blocks _ c.from_vec.result c.from_vec.ensures (c.retarget_blocks.auto.blocks ∙ c.as_mut_slice.ensures.len)
    was count
    c.in_ok-table.ensures.moves c.as_slice-2.ensures.value c.retarget_blocks.ensures ∙ ap (λ (r : RoutineParts). retarget r (moves_of c.args.moves.now))
    c.r.view_is
