use Rattle.std.proofs.Common.{◌≡◌}
use Rattle.c_module.specs.Assembling as specs
use Rattle.c_module.proofs.assembling.present.Given as goal

abbrev pub invariant-loop-slot : goal.invariant-loop-slot
invariant-loop-slot l = l.routines.items ≡ specs.present l.yielded
