use Rattle.std.proofs.Common.{◌≡◌, ◌++◌, drop}
use Rattle.c_lower.specs.Lowering.{array_places}
use Rattle.c_lower.proofs.arrays.array_places.Given as goal

abbrev pub invariant-loop-local : goal.invariant-loop-local
invariant-loop-local l = l.places.items ++ array_places (drop l.local-index l.locals) l.count ≡ array_places l.locals 0
