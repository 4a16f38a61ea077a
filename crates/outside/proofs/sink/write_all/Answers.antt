use Rattle.std.proofs.Common.{arith, le_trans}
use Rattle.std.proofs.lemmas.List.{take_rest}
use Rattle.outside.proofs.Fronts.{Appends-rest}
use Rattle.outside.proofs.sink.write_all.Goals as goal

pub loop-at-preserved : goal.loop-at-preserved
loop-at-preserved g c = record {
  within = omega (arith, c.in_ok-at.ensures.bound);
  taken = Appends-rest _ _ _ c.args.b.now c.loop-at.at c.in_ok-at.field-0 c.loop-at.invariant.taken (rw take_rest at c.in_ok-at.ensures.bytes);
  later = le_trans c.loop-at.invariant.later c.in_ok-at.ensures.cause.later;
}
