use Rattle.std.proofs.Common.{◌≡◌, ◌*◌, ◌^◌, ◌≤◌, take}
use Rattle.std.specs.Prelude.{sum}
use Rattle.c_lower.proofs.limits.has_few_elements.Given as goal

abbrev pub invariant-loop-length : goal.invariant-loop-length
invariant-loop-length l = record {
  elements : l.elements ≡ sum (take l.length-index l.arrays);
  bound : l.elements ≤ 2 ^ 32 * l.length-index;
}
