use Rattle.cleanup.proofs.Joining.{edges_room}
use Rattle.cleanup.proofs.merge.count_edges.Goals as goal

pub count_targets-requires-clause-room : goal.count_targets-requires-clause-room
count_targets-requires-clause-room c =
    edges_room c.args.blocks.now c.as_mut_slice.result.now c.loop-block.counts.items c.loop-block.block-index c.block-item.result c.requires.few
    c.loop-block-test.true c.block-item.is c.as_mut_slice.ensures.value c.loop-block.invariant.whole
