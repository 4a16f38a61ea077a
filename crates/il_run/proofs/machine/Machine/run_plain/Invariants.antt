use Rattle.std.proofs.Common.{◌-◌, length}
use Rattle.il_run.proofs.Leading.{InRow}
use Rattle.il_run.proofs.machine.Machine.run_plain.Given as goal

abbrev pub invariant-instrs : goal.invariant-instrs
invariant-instrs l = InRow l.p l.t l.fn.self l.self l.at

abbrev pub decreases-instrs : goal.decreases-instrs
decreases-instrs l = length l.instrs - l.at
