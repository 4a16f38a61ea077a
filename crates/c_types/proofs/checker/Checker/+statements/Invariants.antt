use Rattle.std.proofs.Common.{◌≡◌, drop, map}
use Rattle.c_types.specs.StatementRules as rules
use Rattle.c_types.proofs.Orders.{before}
use Rattle.c_types.proofs.checker.Checker.+statements.Given as goal

abbrev pub invariant-statements-loop-s : goal.invariant-statements-loop-s
invariant-statements-loop-s l = before l.out.items (rules.statements l.around (map rules.ruling (drop l.s-index l.ss)) l.self) ≡ rules.statements l.around
    (map rules.ruling l.ss) l.fn.self

abbrev pub invariant-sections-loop-s : goal.invariant-sections-loop-s
invariant-sections-loop-s l = before l.out.items (rules.sections l.around l.ty (map rules.ruling (drop l.s-index l.ss)) l.self) ≡ rules.sections l.around l.ty
    (map rules.ruling l.ss) l.fn.self
