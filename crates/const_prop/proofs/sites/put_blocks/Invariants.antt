use Rattle.const_prop.proofs.SiteSteps.{PuttingAll}
use Rattle.const_prop.proofs.sites.put_blocks.Given as goal

abbrev pub invariant-loop-b : goal.invariant-loop-b
invariant-loop-b l = PuttingAll l.fn.flow.regs l.fn.flow.params l.blocks l.fn.known l.b l.flow l.table l.known
