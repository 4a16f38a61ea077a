use Rattle.std.proofs.Common.{◌∙◌, ◌<◌, arith, length}
use Rattle.const_prop.proofs.BlockSteps.{block_named, propagate_next}
use Rattle.const_prop.proofs.constants.propagate_blocks.Goals as goal

pub propagate_block-requires : goal.propagate_block-requires
propagate_block-requires c =
    let test = c.loop-b-test.true in
    let changed = c.loop-b.invariant.changed in
    let count = changed.count in
    let lt : c.loop-b.b < length c.loop-b.blocks = omega arith in
    block_named c.args.flow.now.regs (length c.enter.new.table) c.args.blocks.now c.loop-b.blocks c.loop-b.b c.index-blocks-b.result
    c.requires.named count lt changed.rest c.index-blocks-b.is (c.enter.ensures.size ∙ c.loop-b.invariant.size)

pub loop-b-preserved : goal.loop-b-preserved
loop-b-preserved c =
    let test = c.loop-b-test.true in
    let count = c.loop-b.invariant.changed.count in
    let lt : c.loop-b.b < length c.loop-b.blocks = omega arith in
    propagate_next c.args.flow.now.regs c.args.flow.now.params c.args.blocks.now c.loop-b.b c.index-blocks-b.result c.propagate_block.new.block c.loop-b.flow
    c.enter.new.self c.leave.new.self
    c.loop-b.table c.enter.new.table c.propagate_block.new.table c.loop-b.blocks c.requires.named lt c.index-blocks-b.is c.loop-b.invariant
    c.enter.ensures.size c.enter.ensures.starts c.enter.ensures.flow c.propagate_block.ensures.block c.propagate_block.ensures.facts c.in_ok-leave.ensures
