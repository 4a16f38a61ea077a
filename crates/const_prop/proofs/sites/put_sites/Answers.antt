use Rattle.const_prop.proofs.SiteSteps.{put_step}
use Rattle.const_prop.proofs.sites.put_sites.Goals as goal

pub loop-instr-preserved : goal.loop-instr-preserved
loop-instr-preserved c = put_step _ _ _ _ _ _ _ _ _ c.requires c.loop-instr-test.true c.instr-item.is c.in_ok-put_site.ensures c.step.ensures
    c.loop-instr.invariant
