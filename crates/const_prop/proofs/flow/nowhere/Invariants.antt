use Rattle.const_prop.specs.Tables.{AreMissing}
use Rattle.const_prop.proofs.flow.nowhere.Given as goal

abbrev pub invariant-loop-t : goal.invariant-loop-t
invariant-loop-t l = AreMissing l.t l.tables.items
