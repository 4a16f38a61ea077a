use Rattle.std.proofs.Common.{refl}
use Rattle.c_types.proofs.ScopeTables.{kept_added}
use Rattle.c_types.proofs.scopes.Scopes.push.Goals as goal

pub invariant_of-self-2 : goal.invariant_of-self-2
invariant_of-self-2 g c = kept_added _ c.self.inside.table.entries c.note.new.table.entries c.self.inside.entries.items c.push_front.new.self.items
    c.self.invariant c.in_ok-hides.ensures.ok c.in_ok-hides.ensures.old (rw (c.in_ok-push_front.ensures.items, c.in_ok-try_reserve.ensures.items) refl)
