use Rattle.std.proofs.Common.{◌≡◌, ◌+◌, ◌-◌, suc, arith, length}
use Rattle.const_prop.proofs.Noting.{take_next}
use Rattle.const_prop.proofs.carried.carried.Goals as goal

pub loop-done-preserved : goal.loop-done-preserved
loop-done-preserved c =
    let test = c.loop-done-test.true in
    let t = c.in_ok-row.ensures in
    let at : length c.args.blocks.now - 1 - c.loop-done.done + suc c.loop-done.done ≡ length c.args.blocks.now = omega arith in
    take_next c.args.regs c.args.looped.now c.args.blocks.now c.loop-done.rows.items c.as_slice.result.now c.loop-done.done
    (length c.args.blocks.now - 1 - c.loop-done.done)
    c.loop-done.taking c.take_block.new.self c.index-blocks-b.result c.in_ok-row.row at c.index-blocks-b.is c.as_slice.ensures.value
    t.takes t.stamped t.stamp t.row c.loop-done.invariant
