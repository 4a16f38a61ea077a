use Rattle.std.proofs.Common.{sym, ◌∙◌}
use Rattle.c_types.proofs.ScopeTables.{innermost_none, innermost_here, innermost_elsewhere}
use Rattle.c_types.proofs.scopes.Scopes.innermost.Goals as goal

pub returns-then-latest-self : goal.returns-then-latest-self
returns-then-latest-self g c = innermost_here c.args.name.now c.self.inside.table.entries c.self.inside.entries.items c.self.inside.depth c.args.self.now
    c.self.invariant c.self.view_is c.in-Some.latest (sym c.in-Some.is ∙ c.latest_of.ensures) c.if-latest-self.true

pub returns-else-latest-self : goal.returns-else-latest-self
returns-else-latest-self g c = innermost_elsewhere c.args.name.now c.self.inside.table.entries c.self.inside.entries.items c.self.inside.depth c.args.self.now
    c.self.invariant c.self.view_is c.in-Some.latest (sym c.in-Some.is ∙ c.latest_of.ensures) c.if-latest-self.false

pub returns-in-None : goal.returns-in-None
returns-in-None g c = innermost_none c.args.name.now c.self.inside.table.entries c.self.inside.entries.items c.self.inside.depth c.args.self.now
    c.self.invariant c.self.view_is (sym c.in-None.is ∙ c.latest_of.ensures)
