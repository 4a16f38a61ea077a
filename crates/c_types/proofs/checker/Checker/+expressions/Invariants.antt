use Rattle.std.proofs.Common.{◌≡◌, drop, map}
use Rattle.c_types.specs.ExpressionRules as rules
use Rattle.c_types.proofs.Orders.{before}
use Rattle.c_types.proofs.checker.Checker.+expressions.Given as goal

abbrev pub invariant-arguments-loop-e : goal.invariant-arguments-loop-e
invariant-arguments-loop-e l = before l.out.items (rules.arguments l.types (map rules.typing (drop l.e-index l.es)) l.self) ≡ rules.arguments l.params
    (map rules.typing l.es) l.fn.self
