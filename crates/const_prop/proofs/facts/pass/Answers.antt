use Rattle.const_prop.proofs.Through.{pass_step}
use Rattle.const_prop.proofs.facts.pass.Goals as goal

pub loop-instr-preserved : goal.loop-instr-preserved
loop-instr-preserved c = pass_step _ _ _ _ _ _ c.requires c.loop-instr-test.true c.instr-item.is c.step.ensures c.loop-instr.invariant
