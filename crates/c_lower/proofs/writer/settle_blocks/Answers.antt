use Rattle.std.specs.Prelude.{slice_index}
use Rattle.c_lower.proofs.Settling.{settle_step}
use Rattle.c_lower.proofs.writer.settle_blocks.Goals as goal

pub loop-block-preserved : goal.loop-block-preserved
loop-block-preserved c =
    settle_step (slice_index c.args.targets.now) c.args.blocks.now c.loop-block.blocks c.loop-block.block-index c.block-item.result
    c.settle-block.result c.loop-block-test.true c.loop-block.invariant c.block-item.is c.settle-block.ensures
