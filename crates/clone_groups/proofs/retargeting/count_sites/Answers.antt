use Rattle.std.proofs.Common.{arith, ap, ◌∙◌}
use Rattle.il_core.specs.Meaning.{sites_of}
use Rattle.clone_groups.proofs.Moving.{part_few}
use Rattle.clone_groups.proofs.retargeting.count_sites.Goals as goal

pub overflow_add-sites : goal.overflow_add-sites
overflow_add-sites c =
    let few = part_few c.args.blocks.now c.loop-block.block-index c.loop-block.sites c.count_calls-sites.result c.block-item.result c.loop-block.invariant
    c.loop-block-test.true c.block-item.is (c.count_calls-sites.ensures.count ∙ ap sites_of c.as_slice.ensures) c.requires in
    omega (arith, few)
