use Rattle.call_graph.proofs.Summarised.{reads_are}
use Rattle.call_graph.proofs.reads.reads_of.Goals as goal

pub returns : goal.returns
returns c = reads_are c.args.blocks.now c.args.params c.loop-block.block-index c.loop-block.marks.items c.loop-block-test.false c.loop-block.invariant
