use Rattle.std.proofs.Common.{◌∙◌, ap, false, subst}
use Rattle.c_types.specs.DeclarationRules.{bind_object, extent_or, link, object_entity, object_standing}
use Rattle.c_types.specs.Follows.{Follows}
use Rattle.c_types.specs.Rules.{◌>>=◌}
use Rattle.c_types.proofs.Orders.{follows_after}
use Rattle.c_types.proofs.checker.Checker.declare_object.Goals as goal

pub returns : goal.returns
returns c =
    let d = c.args.d.now in let s = c.args.s in
    let linking = link c.args.number d.name s.storage false (object_standing s.storage d.initialiser) (object_entity c.args.ty s.fixed c.args.said) in
    let after = follows_after (λ _. tt) linking (bind_object s d c.args.ty c.extent_or-extent.result) c.in_ok-l.l c.args.self.now c.link_object.new.self
    c.bind_object.new.self c.bind_object.result c.in_ok-l.ensures c.bind_object.ensures in
    subst (λ e. Follows (λ _. tt) (linking >>= λ l. bind_object s d c.args.ty e l) c.args.self.now c.bind_object.result c.bind_object.new.self)
    (c.extent_or-extent.ensures ∙ ap (extent_or c.args.said) c.bound_here.ensures) after
