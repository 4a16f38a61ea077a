use Rattle.std.proofs.Common.{◌≡◌, drop, map, pos}
use Rattle.c_types.specs.ExpressionRules as rules
use Rattle.c_types.specs.Rules.{in_order}
use Rattle.c_types.proofs.Orders.{before}
use Rattle.c_types.proofs.checker.Checker.+constants.Given as goal

abbrev pub invariant-parts-loop-item : goal.invariant-parts-loop-item
invariant-parts-loop-item l = before l.out.items (in_order (map rules.reading (drop l.item-index l.items)) l.self) ≡ in_order (map rules.reading l.items)
    l.fn.self

abbrev pub invariant-enumeration-loop-e : goal.invariant-enumeration-loop-e
invariant-enumeration-loop-e l = rules.all_enumerators l.next (map rules.enumerating (drop l.e-index l.es)) l.self ≡ rules.all_enumerators (pos 0)
    (map rules.enumerating l.es) l.fn.self
