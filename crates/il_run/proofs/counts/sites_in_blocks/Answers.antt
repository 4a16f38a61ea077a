use Rattle.std.proofs.Common.{arith, ◌∙◌}
use Rattle.il_run.proofs.Numbers.{blocks_more, blocks_all, blocks_few}
use Rattle.il_run.proofs.counts.sites_in_blocks.Goals as goal

pub loop-block-preserved : goal.loop-block-preserved
loop-block-preserved c = blocks_more c.args.blocks.now c.loop-block.block-index c.block-item.result c.loop-block.count c.sites_in_instrs-count.result
    c.as_slice.result.now c.loop-block-test.true c.block-item.is c.loop-block.invariant c.sites_in_instrs-count.ensures.count c.as_slice.ensures

pub returns : goal.returns
returns c = c.loop-block.invariant ∙ blocks_all c.args.blocks.now c.loop-block.block-index c.loop-block-test.false

pub overflow_add-count : goal.overflow_add-count
overflow_add-count c = omega (
  arith,
  blocks_few c.args.blocks.now c.loop-block.block-index c.block-item.result c.loop-block.count c.sites_in_instrs-count.result
      c.as_slice.result.now c.loop-block-test.true c.block-item.is c.loop-block.invariant c.sites_in_instrs-count.ensures.count c.as_slice.ensures,
  c.requires,
)
