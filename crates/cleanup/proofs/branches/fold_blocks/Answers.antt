use Rattle.std.proofs.Common.{◌∙◌, ◌<◌, arith, length}
use Rattle.const_prop.proofs.BlockSteps.{block_named}
use Rattle.cleanup.proofs.Folding.{end_named, fold_next}
use Rattle.cleanup.proofs.branches.fold_blocks.Goals as goal

pub fold_block-requires-clause-instrs : goal.fold_block-requires-clause-instrs
fold_block-requires-clause-instrs c =
    let test = c.loop-b-test.true in
    let changed = c.loop-b.invariant.changed in
    let count = changed.count in
    let lt : c.loop-b.b < length c.loop-b.blocks = omega arith in
    block_named c.args.flow.now.regs (length c.enter.new.table) c.args.blocks.now c.loop-b.blocks c.loop-b.b c.index-blocks-b.result
    c.requires.named count lt changed.rest c.index-blocks-b.is (c.enter.ensures.size ∙ c.loop-b.invariant.size)

pub fold_block-requires-clause-end : goal.fold_block-requires-clause-end
fold_block-requires-clause-end c =
    let test = c.loop-b-test.true in
    let changed = c.loop-b.invariant.changed in
    let count = changed.count in
    let lt : c.loop-b.b < length c.loop-b.blocks = omega arith in
    end_named c.args.flow.now.regs (length c.enter.new.table) c.args.blocks.now c.loop-b.blocks c.loop-b.b c.index-blocks-b.result
    c.requires.ends count lt changed.rest c.index-blocks-b.is (c.enter.ensures.size ∙ c.loop-b.invariant.size)

pub loop-b-preserved : goal.loop-b-preserved
loop-b-preserved c =
    let test = c.loop-b-test.true in
    let count = c.loop-b.invariant.changed.count in
    let lt : c.loop-b.b < length c.loop-b.blocks = omega arith in
    fold_next c.args.flow.now.regs c.args.flow.now.params c.args.blocks.now c.loop-b.b c.index-blocks-b.result c.fold_block.new.block c.loop-b.flow
    c.enter.new.self c.leave.new.self c.loop-b.table c.enter.new.table c.fold_block.new.table c.loop-b.blocks c.requires.named c.requires.ends lt
    c.index-blocks-b.is c.loop-b.invariant c.enter.ensures.size c.enter.ensures.starts c.enter.ensures.flow
    c.fold_block.ensures.block c.fold_block.ensures.facts c.in_ok-leave.ensures
