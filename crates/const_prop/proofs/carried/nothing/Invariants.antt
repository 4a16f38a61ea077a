use Rattle.const_prop.specs.Carried.{AreEmpty}
use Rattle.const_prop.proofs.carried.nothing.Given as goal

abbrev pub invariant-loop-b : goal.invariant-loop-b
invariant-loop-b l = AreEmpty l.b l.rows.items
