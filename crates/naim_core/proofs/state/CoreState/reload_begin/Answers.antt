use Rattle.std.proofs.Common.{sym, ap, ◌∙◌, refl, rules}
use Rattle.naim_core.specs.View.{core_of}
use Rattle.naim_core.specs.Rows
use Rattle.naim_core.specs.State.{is_offloaded}
use Rattle.naim_core.specs.declared.pool.Stage.TheVariants as stage
use Rattle.naim_core.proofs.Residents.{stays_held, stays_away}
use Rattle.naim_core.proofs.Told.{reload_begin_keeps, reload_begin_follows, reload_begin_refused, task_same, pin_task}
use Rattle.naim_core.proofs.state.CoreState.reload_begin.Goals as goal

pub returns-in_err-next : goal.returns-in_err-next
returns-in_err-next c = reload_begin_refused (core_of c.self.inside) c.args.self.now c.args.pid c.args.worker c.args.mode c.in-Some.pool c.index-hand.result.now
    c.in_err-next.field-0.0 (record {
      view = c.self.view_is;
      sound = c.self.invariant.0;
      found = sym c.get.ensures ∙ c.in-Some.is;
      below = c.requires;
      hand =
          c.index-hand.ensures;
    }) (sym c.reload_begin.ensures ∙ c.in_err-next.was) c.from_residual.result (search rules)

pub change_in_place-requires-clause-task : goal.change_in_place-requires-clause-task
change_in_place-requires-clause-task c = ap (λ k. k.task) c.with_pin-hand.ensures ∙ pin_task c.args.mode c.args.pid c.index-hand.result.now ∙ task_same
    (core_of c.self.inside) c.args.self.now c.args.pid c.args.worker c.in-Some.pool c.index-hand.result.now
    (record { view = c.self.view_is; sound = c.self.invariant.0; found = sym c.get.ensures ∙ c.in-Some.is; below = c.requires; hand = c.index-hand.ensures })

pub change_in_place-requires-clause-sound : goal.change_in_place-requires-clause-sound
change_in_place-requires-clause-sound c = rw c.with_pin-hand.ensures
    (reload_begin_keeps (core_of c.self.inside) c.args.self.now c.args.pid c.args.worker c.args.mode c.in-Some.pool c.in_ok-next.next c.index-hand.result.now
    (record { view = c.self.view_is; sound = c.self.invariant.0; found = sym c.get.ensures ∙ c.in-Some.is; below = c.requires; hand = c.index-hand.ensures })
    (sym c.reload_begin.ensures ∙ c.in_ok-next.was) c.lent-disk.result c.lent-disk.ensures)

pub change_in_place-requires-clause-pinned : goal.change_in_place-requires-clause-pinned
change_in_place-requires-clause-pinned c = stays_held (Rows.reload_begin_row c.in-Some.pool c.index-hand.result.now c.self.inside.in_wave c.args.pid c.args.mode
    c.self.inside.disk) (record c.in-Some.pool { stage = stage.Reloading c.args.mode (is_offloaded c.in-Some.pool.stage) }) c.in_ok-next.next
    (sym c.reload_begin.ensures ∙ c.in_ok-next.was) refl

pub change_in_place-requires-clause-resident : goal.change_in_place-requires-clause-resident
change_in_place-requires-clause-resident c = stays_away (Rows.reload_begin_row c.in-Some.pool c.index-hand.result.now c.self.inside.in_wave c.args.pid
    c.args.mode c.self.inside.disk) (record c.in-Some.pool { stage = stage.Reloading c.args.mode (is_offloaded c.in-Some.pool.stage) }) c.in_ok-next.next
    (sym c.reload_begin.ensures ∙ c.in_ok-next.was) refl

pub returns : goal.returns
returns c = reload_begin_follows (core_of c.self.inside) c.args.self.now c.args.pid c.args.worker c.args.mode c.in-Some.pool c.in_ok-next.next
    c.index-hand.result.now (record {
      view = c.self.view_is;
      sound = c.self.invariant.0;
      found = sym c.get.ensures ∙ c.in-Some.is;
      below = c.requires;
      hand =
          c.index-hand.ensures;
    }) (sym c.reload_begin.ensures ∙ c.in_ok-next.was) c.lent-disk.result c.lent-disk.ensures _
    (rw c.with_pin-hand.ensures at c.change_in_place.ensures)
