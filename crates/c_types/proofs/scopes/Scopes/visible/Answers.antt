use Rattle.std.proofs.Common.{sym, ◌∙◌}
use Rattle.c_types.proofs.ScopeTables.{visible_is}
use Rattle.c_types.proofs.scopes.Scopes.visible.Goals as goal

pub returns-in-Some : goal.returns-in-Some
returns-in-Some g c = visible_is c.args.name.now c.self.inside.table.entries c.self.inside.entries.items c.self.inside.depth c.args.self.now _ c.self.invariant
    (sym c.in-Some.is ∙ c.latest_of.ensures) c.self.view_is

pub returns-in-None : goal.returns-in-None
returns-in-None g c = visible_is c.args.name.now c.self.inside.table.entries c.self.inside.entries.items c.self.inside.depth c.args.self.now _ c.self.invariant
    (sym c.in-None.is ∙ c.latest_of.ensures) c.self.view_is
