use Rattle.std.proofs.Common.{◌≡◌, ◌+◌, ◌++◌, drop}
use Rattle.il_laws.specs.Splice.{passed}
use Rattle.inliner.proofs.splicing.put_passed.Given as goal

abbrev pub invariant-loop-arg : goal.invariant-loop-arg
invariant-loop-arg l = record {
  next : l.next ≡ l.register + l.arg-index;
  whole : l.out.items ++ passed l.next (drop l.arg-index l.args) ≡ l.fn.out.items ++ passed l.register l.args;
}
