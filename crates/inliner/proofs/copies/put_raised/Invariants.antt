use Rattle.std.proofs.Common.{◌≡◌, ◌++◌, drop, map}
use Rattle.il_core.specs.Operands.{renamed}
use Rattle.inliner.specs.Copies.{names_of}
use Rattle.inliner.proofs.copies.put_raised.Given as goal

abbrev pub invariant-loop-instr : goal.invariant-loop-instr
invariant-loop-instr l = l.out.items ++ map (renamed (names_of l.by)) (drop l.instr-index l.instrs) ≡ l.fn.out.items ++ map (renamed (names_of l.by)) l.instrs
