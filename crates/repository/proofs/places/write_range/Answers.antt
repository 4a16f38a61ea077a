use Rattle.std.proofs.Common.{◌+◌, ◌≤◌, length, drop, arith, le_trans, length-drop, ◌∙◌}
use Rattle.std.proofs.lemmas.List.{take_rest}
use Rattle.repository.proofs.Ranges.{Overwrites-more}
use Rattle.repository.proofs.places.write_range.Goals as goal

pub loop-at-preserved : goal.loop-at-preserved
loop-at-preserved g c = record {
  within = omega (arith, c.in_ok-at.ensures.bound);
  later = le_trans c.loop-at.invariant.later c.in_ok-at.ensures.cause.later;
  reach = c.write_at.ensures.kept_reach ∙ c.loop-at.invariant.reach;
  places = λ honest covers.
      let so_far = c.loop-at.invariant.places honest covers in
      let within : c.args.place + c.loop-at.at + length (drop c.loop-at.at c.args.bytes.now) ≤ g.D.Disk.reach c.loop-at.d =
      rw (c.loop-at.invariant.reach, length-drop) (omega (arith, covers, c.loop-at.invariant.within)) in
      let call = (rw take_rest at c.in_ok-at.ensures.places) so_far.honest within in
      record { honest = call.honest; puts = Overwrites-more _ _ _ c.args.place c.loop-at.at c.in_ok-at.field-0 c.args.bytes.now so_far.puts call.puts };
}
