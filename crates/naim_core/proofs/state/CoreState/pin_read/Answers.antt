use Rattle.std.proofs.Common.{sym, ◌∙◌, refl, rules}
use Rattle.naim_core.specs.View.{core_of}
use Rattle.naim_core.proofs.Bounds.{few_readers}
use Rattle.naim_core.proofs.Told.{pin_read_keeps, pin_read_follows, pin_read_refused, task_same}
use Rattle.naim_core.proofs.state.CoreState.pin_read.Goals as goal

pub pin_read-requires : goal.pin_read-requires
pin_read-requires c = few_readers (core_of c.self.inside) c.args.pid c.in-Some.pool c.self.invariant.0 c.self.invariant.1.few_workers
    (sym c.get.ensures ∙ c.in-Some.is)

pub returns-in_err-next : goal.returns-in_err-next
returns-in_err-next c = pin_read_refused (core_of c.self.inside) c.args.self.now c.args.pid c.args.worker c.in-Some.pool c.index-hand.result.now
    c.in_err-next.field-0.0 (record {
      view = c.self.view_is;
      sound = c.self.invariant.0;
      found = sym c.get.ensures ∙ c.in-Some.is;
      below = c.requires;
      hand =
          c.index-hand.ensures;
    }) (sym c.pin_read.ensures ∙ c.in_err-next.was) c.from_residual.result (search rules)

pub change_first-requires-clause-task : goal.change_first-requires-clause-task
change_first-requires-clause-task c = task_same (core_of c.self.inside) c.args.self.now c.args.pid c.args.worker c.in-Some.pool c.index-hand.result.now
    (record { view = c.self.view_is; sound = c.self.invariant.0; found = sym c.get.ensures ∙ c.in-Some.is; below = c.requires; hand = c.index-hand.ensures })

pub change_first-requires-clause-sound : goal.change_first-requires-clause-sound
change_first-requires-clause-sound c = pin_read_keeps (core_of c.self.inside) c.args.self.now c.args.pid c.args.worker c.in-Some.pool c.in_ok-next.next
    c.index-hand.result.now (record {
      view = c.self.view_is;
      sound = c.self.invariant.0;
      found = sym c.get.ensures ∙ c.in-Some.is;
      below = c.requires;
      hand =
          c.index-hand.ensures;
    }) (sym c.pin_read.ensures ∙ c.in_ok-next.was) c.self.inside.disk refl

pub returns : goal.returns
returns c = pin_read_follows (core_of c.self.inside) c.args.self.now c.args.pid c.args.worker c.in-Some.pool c.in_ok-next.next c.index-hand.result.now
    (record { view = c.self.view_is; sound = c.self.invariant.0; found = sym c.get.ensures ∙ c.in-Some.is; below = c.requires; hand = c.index-hand.ensures })
    (sym c.pin_read.ensures ∙ c.in_ok-next.was) c.self.inside.disk refl _ c.change_first.ensures
