use Rattle.std.proofs.Common.{◌≡◌, drop}
use Rattle.c_types.specs.StatementRules as rules
use Rattle.c_types.proofs.Orders.{before}
use Rattle.c_types.proofs.checker.Checker.declarations.Given as goal

abbrev pub invariant-loop-d : goal.invariant-loop-d
invariant-loop-d l = before l.out.items (rules.declarations (drop l.d-index l.ds) l.self) ≡ rules.declarations l.ds l.fn.self
