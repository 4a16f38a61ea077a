use Rattle.std.proofs.Common.{◌≡◌, ◌≤◌, length, arith}
use Rattle.il_core.specs.Size.{blocks_size}
use Rattle.il_text.proofs.FitLines.{blocks_few}
use Rattle.il_text.proofs.check.line_count.Goals as goal

pub overflow_add-result : goal.overflow_add-result
overflow_add-result c =
    let few : length c.args.routine.now.blocks ≤ blocks_size c.args.routine.now.blocks = blocks_few c.args.routine.now.blocks in
    let len : c.len-blocks.result ≡ length c.args.routine.now.blocks = rw (← c.routine.view_is) c.len-blocks.ensures in
    omega (arith, few, len, c.size.ensures.size, c.size.ensures.bound, c.from.ensures)

pub overflow_add-result-2 : goal.overflow_add-result-2
overflow_add-result-2 c =
    let few : length c.args.routine.now.blocks ≤ blocks_size c.args.routine.now.blocks = blocks_few c.args.routine.now.blocks in
    let len : c.len-blocks.result ≡ length c.args.routine.now.blocks = rw (← c.routine.view_is) c.len-blocks.ensures in
    omega (arith, few, len, c.size.ensures.size, c.size.ensures.bound, c.from.ensures)

pub returns-clause-bound : goal.returns-clause-bound
returns-clause-bound c =
    let few : length c.args.routine.now.blocks ≤ blocks_size c.args.routine.now.blocks = blocks_few c.args.routine.now.blocks in
    let len : c.len-blocks.result ≡ length c.args.routine.now.blocks = rw (← c.routine.view_is) c.len-blocks.ensures in
    omega (arith, few, len, c.size.ensures.size, c.size.ensures.bound, c.from.ensures)
