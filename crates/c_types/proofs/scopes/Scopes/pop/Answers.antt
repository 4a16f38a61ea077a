use Rattle.c_types.proofs.ScopeTables.{kept_popped}
use Rattle.c_types.proofs.scopes.Scopes.pop.Goals as goal

pub invariant_of-self-2 : goal.invariant_of-self-2
invariant_of-self-2 g c = kept_popped c.in_ok-first-2.first c.self.inside.table.entries c.rewrite.new.table.entries c.pop_front.new.self.items
    c.self.inside.entries.items c.rewrite.result c.self.invariant c.in_ok-first-2.ensures.items c.rewrite.ensures.found c.rewrite.ensures.written
