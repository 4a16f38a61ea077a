use Rattle.std.proofs.Common.{◌≡◌, drop}
use Rattle.c_types.specs.DeclarationRules.{parameters_from}
use Rattle.c_types.proofs.Orders.{before}
use Rattle.c_types.proofs.checker.Checker.all_parameters.Given as goal

abbrev pub invariant-loop-place : goal.invariant-loop-place
invariant-loop-place l = before l.types.items (parameters_from l.place (drop l.place l.ps) l.self) ≡ parameters_from 0 l.ps l.fn.self
