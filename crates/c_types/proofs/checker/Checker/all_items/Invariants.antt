use Rattle.std.proofs.Common.{◌≡◌, drop}
use Rattle.c_types.specs.Typing.{all_items}
use Rattle.c_types.proofs.Orders.{before}
use Rattle.c_types.proofs.checker.Checker.all_items.Given as goal

abbrev pub invariant-loop-item : goal.invariant-loop-item
invariant-loop-item l = before l.functions.items (all_items l.number (drop l.item-index l.items) l.self) ≡ all_items l.number l.items l.fn.self
