use Rattle.std.proofs.Common.{◌<◌, ap, arith, get_or, length}
use Rattle.il_core.specs.declared.instr.Block.{Block}
use Rattle.clone_groups.specs.Moves.{callee_in}
use Rattle.clone_groups.proofs.InPlace.{left_over, one_changed}
use Rattle.clone_groups.proofs.Moving.{blocks_change}
use Rattle.clone_groups.proofs.retargeting.retarget_blocks.Goals as goal

pub loop-block-preserved : goal.loop-block-preserved
loop-block-preserved c =
    let now = c.loop-block.blocks in
    let i = c.loop-block.block-index in
    let lt : i < length now = omega (arith, c.loop-block-test.true, c.loop-block.auto.blocks) in
    one_changed (blocks_change (callee_in c.args.table.now)) 0 c.args.blocks.now i c.loop-block.next now c.loop-block.invariant
    (get_or now i c.block-item.result) lt (ap (λ (x : Block). get_or now i x) c.block-item.is) c.retarget_block-next.new.block c.retarget_block-next.result
    c.retarget_block-next.ensures.block c.retarget_block-next.ensures.next

pub retarget_block-next-requires : goal.retarget_block-next-requires
retarget_block-next-requires c =
    let now = c.loop-block.blocks in
    let i = c.loop-block.block-index in
    let lt : i < length now = omega (arith, c.loop-block-test.true, c.loop-block.auto.blocks) in
    let left = left_over (blocks_change (callee_in c.args.table.now)) 0 c.args.blocks.now i c.loop-block.next now c.loop-block.invariant
    (get_or now i c.block-item.result) lt (ap (λ (x : Block). get_or now i x) c.block-item.is) in
    omega (arith, left, c.requires)
