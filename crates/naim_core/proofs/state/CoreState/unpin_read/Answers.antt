use Rattle.std.proofs.Common.{sym, ◌∙◌, refl, rules}
use Rattle.naim_core.specs.View.{core_of}
use Rattle.naim_core.proofs.Told.{unpin_read_keeps, unpin_read_follows, unpin_read_refused, task_same}
use Rattle.naim_core.proofs.state.CoreState.unpin_read.Goals as goal

pub unpin_read-requires-clause-read : goal.unpin_read-requires-clause-read
unpin_read-requires-clause-read c = (c.self.invariant.0.forms_fit c.args.pid c.in-Some.pool (sym c.get.ensures ∙ c.in-Some.is)).stage_fits

pub returns-in_err-next : goal.returns-in_err-next
returns-in_err-next c = unpin_read_refused (core_of c.self.inside) c.args.self.now c.args.pid c.args.worker c.args.form c.in-Some.pool c.index-hand.result.now
    c.in_err-next.field-0.0 (record {
      view = c.self.view_is;
      sound = c.self.invariant.0;
      found = sym c.get.ensures ∙ c.in-Some.is;
      below = c.requires;
      hand =
          c.index-hand.ensures;
    }) (rw c.under.ensures at (sym c.unpin_read.ensures ∙ c.in_err-next.was)) c.from_residual.result (search rules)

pub change_first-requires-clause-task : goal.change_first-requires-clause-task
change_first-requires-clause-task c = task_same (core_of c.self.inside) c.args.self.now c.args.pid c.args.worker c.in-Some.pool c.index-hand.result.now
    (record { view = c.self.view_is; sound = c.self.invariant.0; found = sym c.get.ensures ∙ c.in-Some.is; below = c.requires; hand = c.index-hand.ensures })

pub change_first-requires-clause-sound : goal.change_first-requires-clause-sound
change_first-requires-clause-sound c = unpin_read_keeps (core_of c.self.inside) c.args.self.now c.args.pid c.args.worker c.args.form c.in-Some.pool
    c.in_ok-next.next c.index-hand.result.now (record {
      view = c.self.view_is;
      sound = c.self.invariant.0;
      found = sym c.get.ensures ∙ c.in-Some.is;
      below =
          c.requires;
      hand = c.index-hand.ensures;
    }) (rw c.under.ensures at (sym c.unpin_read.ensures ∙ c.in_ok-next.was)) c.self.inside.disk refl

pub returns : goal.returns
returns c = unpin_read_follows (core_of c.self.inside) c.args.self.now c.args.pid c.args.worker c.args.form c.in-Some.pool c.in_ok-next.next
    c.index-hand.result.now (record {
      view = c.self.view_is;
      sound = c.self.invariant.0;
      found = sym c.get.ensures ∙ c.in-Some.is;
      below = c.requires;
      hand =
          c.index-hand.ensures;
    }) (rw c.under.ensures at (sym c.unpin_read.ensures ∙ c.in_ok-next.was)) c.self.inside.disk refl _ c.change_first.ensures
