use Rattle.std.proofs.Common.{◌≡◌, ◌++◌, drop}
use Rattle.lower_laws.specs.Functions.{array_lengths}
use Rattle.c_lower.proofs.arrays.array_lengths.Given as goal

abbrev pub invariant-loop-local : goal.invariant-loop-local
invariant-loop-local l = l.lengths.items ++ array_lengths (drop l.local-index l.locals) ≡ array_lengths l.locals
