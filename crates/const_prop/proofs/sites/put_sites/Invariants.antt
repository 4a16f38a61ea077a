use Rattle.const_prop.proofs.SiteSteps.{Putting}
use Rattle.const_prop.proofs.sites.put_sites.Given as goal

abbrev pub invariant-loop-instr : goal.invariant-loop-instr
invariant-loop-instr l = Putting l.fn.table l.instrs l.fn.known l.instr-index l.table l.known
