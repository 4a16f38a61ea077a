use Rattle.std.proofs.Common.{◌≡◌, ◌+◌, ◌*◌, ◌≤◌, length, drop, flat_map}
use Rattle.compact_form.specs.Numbers.{spelled}
use Rattle.compact_form.proofs.lengths.numbers_len.Given as goal

abbrev pub invariant-loop-n : goal.invariant-loop-n
invariant-loop-n l = record {
  total : l.total + length (flat_map spelled (drop l.n-index l.numbers)) ≡ length (flat_map spelled l.numbers);
  bound : l.total ≤ 5 * l.n-index;
}
