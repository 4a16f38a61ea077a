use Rattle.std.proofs.Common.{refl, sym, ap, ◌∙◌}
use Rattle.std.specs.Prelude.{is_none}
use Rattle.naim_core.specs.State.{pool_at}
use Rattle.naim_core.specs.declared.event.Event.TheVariants as event
use Rattle.naim_core.proofs.Effects.{remove_did}
use Rattle.naim_loader.proofs.Removals.{remove_whole}
use Rattle.naim_loader.proofs.Views.{removed_view}
use Rattle.naim_loader.proofs.Wholes.{ran, there, whole_refused}
use Rattle.naim_loader.proofs.loader.Loader.remove.Goals as goal

pub invariant_of-self : goal.invariant_of-self
invariant_of-self g c =
    whole_refused _ _ _ _ _ _ c.self.inside.limit c.self.inside.core c.step.new.core _ _ c.self.inside.table c.self.inside.disk _ c.self.inside.counters
    c.step.new.counters c.self.invariant c.in_default.ensures.refused

pub remove-requires : goal.remove-requires
remove-requires g c =
    let at = ap (λ z. pool_at z.core.pools c.args.pid) c.self.view_is ∙ c.requires.pool.1 in
    let t = there _ _ _ _ _ _ c.self.inside.limit c.self.inside.core c.self.inside.table c.self.inside.disk _ c.self.inside.counters c.args.pid
    c.requires.pool.0 c.self.invariant at in let e = t.at in rw e refl

pub invariant_of-self-2 : goal.invariant_of-self-2
invariant_of-self-2 g c =
    let t = c.in-Ok.ensures.taken in let none = ran c.self.inside.core c.step.new.core (event.Remove c.args.pid) refl t.step in
    remove_whole _ _ _ _ _ _ c.self.inside.limit c.args.pid c.self.inside.core c.step.new.core c.self.inside.table c.remove.new.self c.self.inside.disk _
    c.self.inside.counters c.step.new.counters c.self.invariant none t c.remove.ensures

pub returns-clause-removes : goal.returns-clause-removes
returns-clause-removes g c _ =
    let at = ap (λ z. pool_at z.core.pools c.args.pid) c.self.view_is ∙ c.requires.pool.1 in
    let th = there _ _ _ _ _ _ c.self.inside.limit c.self.inside.core c.self.inside.table c.self.inside.disk _ c.self.inside.counters c.args.pid
    c.requires.pool.0 c.self.invariant at in
    let t = c.in-Ok.ensures.taken in let none = ran c.self.inside.core c.step.new.core (event.Remove c.args.pid) refl t.step in
    removed_view c.args.self.now _ c.self.inside.table c.remove.new.self c.args.pid th.entry c.step.new.core c.step.new.counters c.self.view_is refl th.at
    (c.self.invariant.home none ∙ ap is_none (sym (remove_did c.self.inside.core c.step.new.core c.args.pid c.self.invariant.sound none t.step).disk_is)) t
    c.remove.ensures
