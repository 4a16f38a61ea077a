use Rattle.std.proofs.Common.{◌≡◌, drop}
use Rattle.c_types.specs.DeclarationRules.{element_words}
use Rattle.c_types.proofs.Orders.{before}
use Rattle.c_types.proofs.checker.Checker.element_words.Given as goal

abbrev pub invariant-loop-e : goal.invariant-loop-e
invariant-loop-e l = before l.words.items (element_words l.line l.ty l.room (drop l.e-index l.elements) l.self) ≡ element_words l.line l.ty l.fn.room l.elements
    l.fn.self
