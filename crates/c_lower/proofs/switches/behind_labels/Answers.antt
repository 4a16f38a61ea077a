use Rattle.c_lower.proofs.LabelSteps.{at_step}
use Rattle.c_lower.proofs.switches.behind_labels.Goals as goal

pub loop-l-preserved : goal.loop-l-preserved
loop-l-preserved c = at_step c.args.labels.now c.loop-l.l-index c.loop-l.label c.in_ok-label.label _ c.loop-l-test.true c.in_ok-label.ensures
    c.loop-l.invariant
