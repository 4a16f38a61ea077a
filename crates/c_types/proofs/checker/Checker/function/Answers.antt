use Rattle.std.proofs.Common.{sym, subst}
use Rattle.std.proofs.lemmas.Result.{err_from_is_err_and}
use Rattle.c_types.specs.Definitions.{bodied, heading}
use Rattle.c_types.specs.Follows.{Follows, Tells}
use Rattle.c_types.specs.Typing.{function}
use Rattle.c_types.proofs.FunctionParts.{function_is}
use Rattle.c_types.proofs.Orders.{follows_after, tells_before}
use Rattle.c_types.proofs.checker.Checker.function.Goals as goal

pub returns : goal.returns
returns c =
    let f = c.args.f.now in
    let parts = follows_after (λ t. t) (heading c.args.number f) (λ head. bodied head f.body) c.in_ok-head.head c.args.self.now c.head.new.self
    c.bodied.new.self c.bodied.result c.in_ok-head.ensures c.bodied.ensures in
    subst (λ rule. Follows (λ t. t) rule c.args.self.now c.bodied.result c.bodied.new.self) (sym (function_is c.args.number f)) parts

pub returns-in_err-head : goal.returns-in_err-head
returns-in_err-head c =
    let f = c.args.f.now in
    let u = err_from_is_err_and c.from_residual.result c.from_residual.ensures.1 in
    let front = tells_before (heading c.args.number f) (λ head. bodied head f.body) c.args.self.now c.in_err-head.field-0.0 c.in_err-head.ensures in
    let told = subst (λ rule. Tells (rule c.args.self.now) c.in_err-head.field-0.0) (sym (function_is c.args.number f)) front in
    subst (λ r. Follows (λ t. t) (function c.args.number f) c.args.self.now r c.head.new.self) (sym u.1)
    (subst (λ x. Tells (function c.args.number f c.args.self.now) x) (sym u.2) told)
