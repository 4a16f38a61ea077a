use Rattle.std.proofs.Common.{◌∙◌, arith}
use Rattle.clone_groups.proofs.Tables.{both_end, is_nothing, one_ends}
use Rattle.clone_groups.proofs.table.are_same.Goals as goal

pub returns-in_default : goal.returns-in_default
returns-in_default c =
    one_ends c.args.some.now c.args.others.now c.loop-param.left.now c.loop-param.param-index c.loop-param.invariant
    (is_nothing c.loop-param.left.now c.in_default.ensures.cases) c.loop-param-test.true

pub returns : goal.returns
returns c =
    c.is_empty.ensures
    ∙ both_end c.args.some.now c.args.others.now c.loop-param.left.now c.loop-param.param-index c.loop-param.invariant (omega (arith, c.loop-param-test.false))
