use Rattle.std.proofs.Common.{◌≡◌, length}
use Rattle.il_laws.specs.Facts.{Facts}
use Rattle.const_prop.specs.Carried.{placed}
use Rattle.const_prop.specs.Tables.{Has}
use Rattle.const_prop.proofs.Placing.{KnowsTo}
use Rattle.const_prop.proofs.flow.restore.Given as goal

abbrev pub invariant-loop-i : goal.invariant-loop-i
invariant-loop-i l = record {
  size : length l.table ≡ length l.fn.table;
  done : (fs : Facts) → Has (length l.carried) l.facts (placed l.carried fs) → KnowsTo l.i l.carried l.table fs;
}
