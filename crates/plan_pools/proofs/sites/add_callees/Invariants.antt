use Rattle.std.proofs.Common.{◌≡◌, ◌++◌, drop}
use Rattle.il_laws.specs.Sites.{callees_in}
use Rattle.plan_pools.proofs.sites.add_callees.Given as goal

abbrev pub invariant-loop-instr : goal.invariant-loop-instr
invariant-loop-instr l = (l.callees.items ++ callees_in (drop l.instr-index l.instrs)) ≡ (l.fn.callees.items ++ callees_in l.instrs)
