use Rattle.std.proofs.Common.{◌≡◌, drop, map}
use Rattle.c_types.specs.Rules.{in_order}
use Rattle.c_types.specs.StatementRules as rules
use Rattle.c_types.proofs.Orders.{before}
use Rattle.c_types.proofs.checker.Checker.declarators.Given as goal

abbrev pub invariant-loop-d : goal.invariant-loop-d
invariant-loop-d l = before l.out.items (in_order (map (rules.declarator l.s) (drop l.d-index l.ds)) l.self) ≡ rules.declarators l.s l.ds l.fn.self
