use Rattle.il_run.proofs.Starting.{copies_more, copies_all}
use Rattle.il_run.proofs.start.copy.Goals as goal

pub loop-k-preserved : goal.loop-k-preserved
loop-k-preserved c = copies_more _ _ _ _ _ _ c.requires c.loop-k-test.true c.loop-k.invariant

pub returns : goal.returns
returns c = copies_all _ _ _ _ _ c.loop-k-test.false c.loop-k.auto.k-end c.loop-k.invariant
