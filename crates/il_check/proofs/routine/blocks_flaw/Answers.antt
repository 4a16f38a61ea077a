use Rattle.std.proofs.Common.{List, ◌≡◌, ◌+◌, drop, sym, subst}
use Rattle.il_core.specs.declared.instr.Block.{Block}
use Rattle.il_check.specs.Conditions.{first_broken, blocks_conditions}
use Rattle.il_check.proofs.FirstBroken.{blocks_broken, blocks_go_on}
use Rattle.il_check.proofs.routine.blocks_flaw.Goals as goal

pub returns-in-Some : goal.returns-in-Some
returns-in-Some c =
    let same : c.args.r.now.blocks ≡ c.as_slice-block-items.result.now = rw (← c.r.view_is) (sym c.as_slice-block-items.ensures) in
    let inv = λ (l : List Block). first_broken (blocks_conditions c.args.shapes.now c.args.r.now c.loop-number.number (drop c.loop-number.number l)) ≡
    first_broken (blocks_conditions c.args.shapes.now c.args.r.now 0 c.args.r.now.blocks) in
    blocks_broken c.args.shapes.now c.args.r.now c.as_slice-block-items.result.now c.loop-number.number c.block-item.result c.block_flaw.result _ c.in-Some.flaw
    c.loop-number-test.true c.block-item.is (subst inv same c.loop-number.invariant) c.block_flaw.ensures c.in-Some.is

pub loop-number-preserved : goal.loop-number-preserved
loop-number-preserved c =
    let same : c.args.r.now.blocks ≡ c.as_slice-block-items.result.now = rw (← c.r.view_is) (sym c.as_slice-block-items.ensures) in
    let inv = λ (l : List Block). first_broken (blocks_conditions c.args.shapes.now c.args.r.now c.loop-number.number (drop c.loop-number.number l)) ≡
    first_broken (blocks_conditions c.args.shapes.now c.args.r.now 0 c.args.r.now.blocks) in
    let goes = λ (l : List Block). first_broken (blocks_conditions c.args.shapes.now c.args.r.now (c.loop-number.number + 1)
    (drop (c.loop-number.number + 1) l)) ≡ first_broken (blocks_conditions c.args.shapes.now c.args.r.now 0 c.args.r.now.blocks) in
    subst goes (sym same) (blocks_go_on c.args.shapes.now c.args.r.now c.as_slice-block-items.result.now c.loop-number.number c.block-item.result
    c.block_flaw.result _ c.loop-number-test.true c.block-item.is (subst inv same c.loop-number.invariant) c.block_flaw.ensures c.in_default.is)
