use Rattle.std.proofs.Common.{sym, ◌∙◌, rules}
use Rattle.naim_core.specs.View.{core_of}
use Rattle.naim_core.proofs.Told.{reload_end_keeps, reload_end_follows, reload_end_refused, task_same}
use Rattle.naim_core.proofs.state.CoreState.reload_end.Goals as goal

pub returns-in_err-next : goal.returns-in_err-next
returns-in_err-next c = reload_end_refused (core_of c.self.inside) c.args.self.now c.args.pid c.args.worker c.in-Some.pool c.index-hand.result.now
    c.in_err-next.field-0.0 (record {
      view = c.self.view_is;
      sound = c.self.invariant.0;
      found = sym c.get.ensures ∙ c.in-Some.is;
      below = c.requires;
      hand =
          c.index-hand.ensures;
    }) (sym c.reload_end.ensures ∙ c.in_err-next.was) c.from_residual.result (search rules)

pub change_first-requires-clause-task : goal.change_first-requires-clause-task
change_first-requires-clause-task c = task_same (core_of c.self.inside) c.args.self.now c.args.pid c.args.worker c.in-Some.pool c.index-hand.result.now
    (record { view = c.self.view_is; sound = c.self.invariant.0; found = sym c.get.ensures ∙ c.in-Some.is; below = c.requires; hand = c.index-hand.ensures })

pub change_first-requires-clause-sound : goal.change_first-requires-clause-sound
change_first-requires-clause-sound c = reload_end_keeps (core_of c.self.inside) c.args.self.now c.args.pid c.args.worker c.in-Some.pool c.in_ok-next.next
    c.index-hand.result.now (record {
      view = c.self.view_is;
      sound = c.self.invariant.0;
      found = sym c.get.ensures ∙ c.in-Some.is;
      below = c.requires;
      hand =
          c.index-hand.ensures;
    }) (sym c.reload_end.ensures ∙ c.in_ok-next.was) c.returned-disk.result c.returned-disk.ensures

pub returns : goal.returns
returns c = reload_end_follows (core_of c.self.inside) c.args.self.now c.args.pid c.args.worker c.in-Some.pool c.in_ok-next.next c.index-hand.result.now
    (record { view = c.self.view_is; sound = c.self.invariant.0; found = sym c.get.ensures ∙ c.in-Some.is; below = c.requires; hand = c.index-hand.ensures })
    (sym c.reload_end.ensures ∙ c.in_ok-next.was) c.returned-disk.result c.returned-disk.ensures _ c.change_first.ensures
