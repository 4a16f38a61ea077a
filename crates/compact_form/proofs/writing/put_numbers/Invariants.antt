use Rattle.std.proofs.Common.{◌≡◌, ◌++◌, drop, flat_map}
use Rattle.compact_form.specs.Numbers.{spelled}
use Rattle.compact_form.proofs.writing.put_numbers.Given as goal

abbrev pub invariant-loop-n : goal.invariant-loop-n
invariant-loop-n l = l.out.items ++ flat_map spelled (drop l.n-index l.numbers) ≡ l.initial.out.items ++ flat_map spelled l.numbers
