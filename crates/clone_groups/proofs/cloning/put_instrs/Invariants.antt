use Rattle.std.proofs.Common.{◌≡◌, ◌++◌, drop}
use Rattle.clone_groups.proofs.cloning.put_instrs.Given as goal

abbrev pub invariant-loop-instr : goal.invariant-loop-instr
invariant-loop-instr l = l.out.items ++ drop l.instr-index l.instr-items ≡ l.fn.out.items ++ l.fn.instrs
