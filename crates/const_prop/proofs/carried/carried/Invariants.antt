use Rattle.const_prop.proofs.Noting.{TakingBack}
use Rattle.const_prop.proofs.carried.carried.Given as goal

abbrev pub invariant-loop-done : goal.invariant-loop-done
invariant-loop-done l = TakingBack l.regs l.looped l.blocks l.rows.items l.done l.taking
