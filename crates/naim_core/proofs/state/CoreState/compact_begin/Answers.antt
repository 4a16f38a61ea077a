use Rattle.std.proofs.Common.{sym, ap, ◌∙◌, refl, rules}
use Rattle.naim_core.specs.View.{core_of}
use Rattle.naim_core.specs.Rows
use Rattle.naim_core.specs.State.{pool_at}
use Rattle.naim_core.specs.declared.pool.Stage.TheVariants as stage
use Rattle.naim_core.proofs.Residents.{stays_held, compacts_resident, resident_there}
use Rattle.naim_core.proofs.Told.{compact_begin_keeps, compact_begin_follows, compact_begin_refused, task_same}
use Rattle.naim_core.proofs.state.CoreState.compact_begin.Goals as goal

pub returns-in_err-next : goal.returns-in_err-next
returns-in_err-next c = compact_begin_refused (core_of c.self.inside) c.args.self.now c.args.pid c.args.worker c.args.wanted c.in-Some.pool
    c.index-hand.result.now c.in_err-next.field-0.0 (record {
      view = c.self.view_is;
      sound = c.self.invariant.0;
      found = sym c.get.ensures ∙ c.in-Some.is;
      below
          = c.requires;
      hand = c.index-hand.ensures;
    }) (rw (c.under.ensures, c.victim.ensures) at (sym c.compact_begin.ensures ∙ c.in_err-next.was))
    c.from_residual.result (search rules)

pub change_in_place-requires-clause-task : goal.change_in_place-requires-clause-task
change_in_place-requires-clause-task c = task_same (core_of c.self.inside) c.args.self.now c.args.pid c.args.worker c.in-Some.pool c.index-hand.result.now
    (record { view = c.self.view_is; sound = c.self.invariant.0; found = sym c.get.ensures ∙ c.in-Some.is; below = c.requires; hand = c.index-hand.ensures })

pub change_in_place-requires-clause-sound : goal.change_in_place-requires-clause-sound
change_in_place-requires-clause-sound c = compact_begin_keeps (core_of c.self.inside) c.args.self.now c.args.pid c.args.worker c.args.wanted c.in-Some.pool
    c.in_ok-next.next c.index-hand.result.now (record {
      view = c.self.view_is;
      sound = c.self.invariant.0;
      found = sym c.get.ensures ∙ c.in-Some.is;
      below =
          c.requires;
      hand = c.index-hand.ensures;
    }) (rw (c.under.ensures, c.victim.ensures) at (sym c.compact_begin.ensures ∙ c.in_ok-next.was)) c.self.inside.disk
    refl

pub change_in_place-requires-clause-pinned : goal.change_in_place-requires-clause-pinned
change_in_place-requires-clause-pinned c = stays_held (Rows.compact_begin_row c.self.inside.limit c.under.result c.victim.result c.in-Some.pool
    c.index-hand.result.now c.args.pid c.args.wanted) (record c.in-Some.pool { stage = stage.Compacting }) c.in_ok-next.next
    (sym c.compact_begin.ensures ∙ c.in_ok-next.was) refl

pub change_in_place-requires-clause-resident : goal.change_in_place-requires-clause-resident
change_in_place-requires-clause-resident c = λ h. resident_there (pool_at c.args.self.now.pools c.args.pid) c.in-Some.pool
    (ap (λ n. pool_at n.pools c.args.pid) (sym c.self.view_is) ∙ sym c.get.ensures ∙ c.in-Some.is)
    (compacts_resident c.self.inside.limit c.under.result c.victim.result c.in-Some.pool c.in_ok-next.next (record c.in-Some.pool { stage = stage.Compacting })
    c.index-hand.result.now c.args.pid c.args.wanted (sym c.compact_begin.ensures ∙ c.in_ok-next.was))

pub returns : goal.returns
returns c = compact_begin_follows (core_of c.self.inside) c.args.self.now c.args.pid c.args.worker c.args.wanted c.in-Some.pool c.in_ok-next.next
    c.index-hand.result.now (record {
      view = c.self.view_is;
      sound = c.self.invariant.0;
      found = sym c.get.ensures ∙ c.in-Some.is;
      below = c.requires;
      hand =
          c.index-hand.ensures;
    }) (rw (c.under.ensures, c.victim.ensures) at (sym c.compact_begin.ensures ∙ c.in_ok-next.was)) c.self.inside.disk refl _
    c.change_in_place.ensures
