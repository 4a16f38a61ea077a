use Rattle.std.proofs.Common.{◌≡◌, length}
use Rattle.const_prop.specs.Flow.{quiet}
use Rattle.const_prop.proofs.Placing.{KnowsTo}
use Rattle.const_prop.proofs.flow.put_quiet.Given as goal

abbrev pub invariant-loop-x : goal.invariant-loop-x
invariant-loop-x l = record {
  size : length l.table ≡ length l.fn.table;
  done : KnowsTo l.x-index l.carried l.table (quiet l.params l.written);
}
