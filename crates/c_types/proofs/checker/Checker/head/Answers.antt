use Rattle.std.proofs.Common.{◌≡◌, sym, ap, ◌∙◌}
use Rattle.c_types.specs.DeclarationRules.{parameters}
use Rattle.c_types.specs.Definitions.{front, heading}
use Rattle.c_types.specs.Names.{enter, leave}
use Rattle.c_types.specs.Rules.{Gives}
use Rattle.c_types.specs.Typing.{aside}
use Rattle.c_types.proofs.FunctionParts.{heading_is, same_reply}
use Rattle.c_types.proofs.checker.Checker.head.Goals as goal

pub returns : goal.returns
returns c =
    let f = c.args.f.now in let n = c.args.number in let s = c.in_ok-s.s in
    let types = c.in_ok-types.types.items in let h = c.specified.new.self in let after = c.parameters.new.self in
    let reads : parameters f.parameters (enter h) ≡ Gives types after = ap (λ k. parameters f.parameters k) (sym c.in_ok-enter.ensures) ∙ ap
    (λ l. parameters l c.enter.new.self) (sym c.as_slice.ensures) ∙ c.in_ok-types.ensures in
    let same : front n f s c.as_slice-2.result.now c.in_ok-scope.scope c.set_aside.new.self ≡ front n f s types (aside after) (leave after) = ap
    (λ ts. front n f s ts c.in_ok-scope.scope c.set_aside.new.self) c.as_slice-2.ensures.value ∙ ap (λ a. front n f s types a c.set_aside.new.self)
    c.in_ok-scope.ensures.0 ∙ ap (λ k. front n f s types (aside after) k) c.in_ok-scope.ensures.1 in
    same_reply (λ x. x) (front n f s c.as_slice-2.result.now c.in_ok-scope.scope) (heading n f) c.set_aside.new.self c.args.self.now c.front.new.self
    c.front.result (same ∙ sym (heading_is n f s types c.args.self.now h after c.in_ok-s.ensures reads)) c.front.ensures
