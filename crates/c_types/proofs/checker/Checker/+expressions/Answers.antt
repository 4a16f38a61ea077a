use Rattle.std.proofs.Common.{rules, ◌≡◌, map, drop, sym, ap, ◌∙◌, subst}
use Rattle.c_types.specs.ExpressionRules as er
use Rattle.c_types.specs.Follows.{Follows}
use Rattle.c_types.specs.Names.{find}
use Rattle.c_types.specs.Rules.{Gives}
use Rattle.c_types.proofs.Orders.{before, follows_after}
use Rattle.c_types.proofs.Typings.{typing_call, no_types_left, no_arguments_left}
use Rattle.c_types.proofs.checker.Checker.+expressions.Goals as goal
use Rattle.c_types.proofs.checker.Checker.+expressions.Goals.{arguments-else-loop-e-test, arguments-then-loop-e-test+in_default}

pub typed-returns-in_ok-b-in-Call : goal.typed-returns-in_ok-b-in-Call
typed-returns-in_ok-b-in-Call t c =
    let f = c.in-Call.function in
    let es = c.in-Call.arguments in
    let h = c.args.self.now in
    let call = subst (λ xs. Follows (λ x. x) (er.call f.line c.in_ok-b-in-Call.b (map er.typing xs)) h c.call.result c.call.new.self) c.as_slice.ensures
    c.call.ensures in
    let both = follows_after (λ x. x) (find f) (λ b. er.call f.line b (map er.typing es)) c.in_ok-b-in-Call.b h h c.call.new.self c.call.result
    c.in_ok-b-in-Call.ensures call in
    subst (λ rule. Follows (λ x. x) rule h c.call.result c.call.new.self) (sym (ap (λ e. (er.typing e).typed) c.in-Call.is ∙ typing_call f es)) both

pub arguments-returns : goal.arguments-returns
arguments-returns t c =
    let xs = c.loop-e.out.items in
    let h = c.loop-e.self in
    let left : before xs (er.arguments c.loop-e.types.now (map er.typing (drop c.loop-e.e-index c.args.es.now)) h) ≡ Gives xs h =
    elim c.loop-e-test.branch [
      | arguments-else-loop-e-test w ↦ no_arguments_left xs c.loop-e.types.now c.args.es.now c.loop-e.e-index h w.loop-e-test.false
      | arguments-then-loop-e-test+in_default w ↦ no_types_left xs c.loop-e.types.now _ h (search rules)
    ] in
    sym c.loop-e.invariant ∙ left ∙ ap (λ l. Gives l h) (sym c.from_vec.ensures)
