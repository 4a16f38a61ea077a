use Rattle.std.proofs.Common.{None, sym, ◌∙◌, refl, rules}
use Rattle.naim_core.specs.View.{core_of}
use Rattle.naim_core.specs.Rows
use Rattle.naim_core.specs.declared.pool.Stage.TheVariants as stage
use Rattle.naim_core.proofs.Residents.{stays_held, stays_away}
use Rattle.naim_core.proofs.Told.{offload_end_keeps, offload_end_follows, offload_end_refused, task_same}
use Rattle.naim_core.proofs.state.CoreState.offload_end.Goals as goal

pub returns-in_err-next : goal.returns-in_err-next
returns-in_err-next c = offload_end_refused (core_of c.self.inside) c.args.self.now c.args.pid c.args.worker c.in-Some.pool c.index-hand.result.now
    c.in_err-next.field-0.0 (record {
      view = c.self.view_is;
      sound = c.self.invariant.0;
      found = sym c.get.ensures ∙ c.in-Some.is;
      below = c.requires;
      hand =
          c.index-hand.ensures;
    }) (sym c.offload_end.ensures ∙ c.in_err-next.was) c.from_residual.result (search rules)

pub change_in_place-requires-clause-task : goal.change_in_place-requires-clause-task
change_in_place-requires-clause-task c = task_same (core_of c.self.inside) c.args.self.now c.args.pid c.args.worker c.in-Some.pool c.index-hand.result.now
    (record { view = c.self.view_is; sound = c.self.invariant.0; found = sym c.get.ensures ∙ c.in-Some.is; below = c.requires; hand = c.index-hand.ensures })

pub change_in_place-requires-clause-sound : goal.change_in_place-requires-clause-sound
change_in_place-requires-clause-sound c = offload_end_keeps (core_of c.self.inside) c.args.self.now c.args.pid c.args.worker c.in-Some.pool c.in_ok-next.next
    c.index-hand.result.now (record {
      view = c.self.view_is;
      sound = c.self.invariant.0;
      found = sym c.get.ensures ∙ c.in-Some.is;
      below = c.requires;
      hand =
          c.index-hand.ensures;
    }) (sym c.offload_end.ensures ∙ c.in_ok-next.was) None refl

pub change_in_place-requires-clause-pinned : goal.change_in_place-requires-clause-pinned
change_in_place-requires-clause-pinned c = stays_held (Rows.offload_end_row c.in-Some.pool c.index-hand.result.now c.args.pid)
    (record c.in-Some.pool { stage = stage.Offloaded }) c.in_ok-next.next (sym c.offload_end.ensures ∙ c.in_ok-next.was) refl

pub change_in_place-requires-clause-resident : goal.change_in_place-requires-clause-resident
change_in_place-requires-clause-resident c = stays_away (Rows.offload_end_row c.in-Some.pool c.index-hand.result.now c.args.pid)
    (record c.in-Some.pool { stage = stage.Offloaded }) c.in_ok-next.next (sym c.offload_end.ensures ∙ c.in_ok-next.was) refl

pub returns : goal.returns
returns c = offload_end_follows (core_of c.self.inside) c.args.self.now c.args.pid c.args.worker c.in-Some.pool c.in_ok-next.next c.index-hand.result.now
    (record { view = c.self.view_is; sound = c.self.invariant.0; found = sym c.get.ensures ∙ c.in-Some.is; below = c.requires; hand = c.index-hand.ensures })
    (sym c.offload_end.ensures ∙ c.in_ok-next.was) None refl _ c.change_in_place.ensures
