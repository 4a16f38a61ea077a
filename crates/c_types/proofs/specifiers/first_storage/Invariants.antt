use Rattle.std.proofs.Common.{◌≡◌, drop}
use Rattle.c_types.specs.Specifiers as specs
use Rattle.c_types.proofs.specifiers.first_storage.Given as goal

abbrev pub invariant-loop-part : goal.invariant-loop-part
invariant-loop-part l = specs.first_storage (drop l.part-index l.parts) ≡ specs.first_storage l.parts
