use Rattle.std.proofs.Common.{◌∙◌}
use Rattle.c_module.proofs.Framed.{mark_more, no_marks}
use Rattle.c_module.proofs.frame.marked.Goals as goal

pub loop-pid-init : goal.loop-pid-init
loop-pid-init c = c.in_ok-table.ensures ∙ no_marks 0 c.args.names

pub loop-pid-preserved : goal.loop-pid-preserved
loop-pid-preserved c =
    mark_more c.args.names c.args.pids.now c.loop-pid.pid-index 0 c.loop-pid.table.items c.loop-pid-test.true c.requires c.loop-pid.invariant
