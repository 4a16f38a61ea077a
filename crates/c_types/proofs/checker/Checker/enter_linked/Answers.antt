use Rattle.std.proofs.Common.{sym, subst}
use Rattle.c_types.specs.DeclarationRules.{enter_name, program_name}
use Rattle.c_types.specs.Follows.{Follows}
use Rattle.c_types.proofs.checker.Checker.enter_linked.Goals as goal

pub returns : goal.returns
returns c =
    let x = c.args.x.now in
    subst (λ b. Follows (λ pid. pid) (enter_name x.line c.args.standing (program_name c.args.number b x.name) c.args.said) c.args.self.now c.enter_name-2.result
    c.enter_name-2.new.self) (sym c.if-internal.false) c.enter_name-2.ensures

pub returns-then-internal : goal.returns-then-internal
returns-then-internal c =
    let x = c.args.x.now in
    let named = subst (λ n. Follows (λ pid. pid) (enter_name x.line c.args.standing n c.args.said) c.args.self.now c.enter_name.result c.enter_name.new.self)
    c.in_ok-name.ensures c.enter_name.ensures in
    subst (λ b. Follows (λ pid. pid) (enter_name x.line c.args.standing (program_name c.args.number b x.name) c.args.said) c.args.self.now c.enter_name.result
    c.enter_name.new.self) (sym c.if-internal.true) named
