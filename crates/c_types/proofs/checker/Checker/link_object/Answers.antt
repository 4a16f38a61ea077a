use Rattle.std.proofs.Common.{false, subst}
use Rattle.c_types.specs.DeclarationRules.{link, object_standing}
use Rattle.c_types.specs.Follows.{Follows}
use Rattle.c_types.proofs.checker.Checker.link_object.Goals as goal

pub returns : goal.returns
returns c =
    let d = c.args.d.now in let s = c.args.s in
    let stands = subst (λ st. Follows (λ l. l) (link c.args.number d.name s.storage false st c.object_entity-entity.result) c.args.self.now c.link.result
    c.link.new.self) c.object_standing-standing.ensures c.link.ensures in
    subst (λ e. Follows (λ l. l) (link c.args.number d.name s.storage false (object_standing s.storage d.initialiser) e) c.args.self.now c.link.result
    c.link.new.self) c.object_entity-entity.ensures stands
