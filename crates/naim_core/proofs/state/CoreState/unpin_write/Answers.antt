use Rattle.std.proofs.Common.{sym, ◌∙◌, refl, rules}
use Rattle.naim_core.specs.View.{core_of}
use Rattle.naim_core.proofs.Told.{unpin_write_done, unpin_write_other, unpin_write_follows_done, unpin_write_follows_other, unpin_write_refused}
use Rattle.naim_core.proofs.Told.{task_same, eq_some, ne_some}
use Rattle.naim_core.proofs.state.CoreState.unpin_write.Goals as goal

pub returns-in_err-next : goal.returns-in_err-next
returns-in_err-next c = unpin_write_refused (core_of c.self.inside) c.args.self.now c.args.pid c.args.worker c.args.form c.args.e c.args.c c.in-Some.pool
    c.index-hand.result.now c.in_err-next.field-0.0 (record {
      view = c.self.view_is;
      sound = c.self.invariant.0;
      found = sym c.get.ensures ∙ c.in-Some.is;
      below
          = c.requires;
      hand = c.index-hand.ensures;
    }) (rw c.under.ensures at (sym c.unpin_write.ensures ∙ c.in_err-next.was)) c.from_residual.result (search rules)

pub finish_task-requires-clause-sound : goal.finish_task-requires-clause-sound
finish_task-requires-clause-sound c = unpin_write_done (core_of c.self.inside) c.args.self.now c.args.pid c.args.worker c.args.form c.args.e c.args.c
    c.in-Some.pool c.in_ok-next.next c.index-hand.result.now (record
    { view = c.self.view_is; sound = c.self.invariant.0; found = sym c.get.ensures ∙ c.in-Some.is; below = c.requires; hand = c.index-hand.ensures })
    (rw c.under.ensures at (sym c.unpin_write.ensures ∙ c.in_ok-next.was)) (eq_some c.index-hand.result.now.task c.args.pid c.if-eq.ensures)

pub change_first-requires-clause-task : goal.change_first-requires-clause-task
change_first-requires-clause-task c = task_same (core_of c.self.inside) c.args.self.now c.args.pid c.args.worker c.in-Some.pool c.index-hand.result.now
    (record { view = c.self.view_is; sound = c.self.invariant.0; found = sym c.get.ensures ∙ c.in-Some.is; below = c.requires; hand = c.index-hand.ensures })

pub change_first-requires-clause-sound : goal.change_first-requires-clause-sound
change_first-requires-clause-sound c = unpin_write_other (core_of c.self.inside) c.args.self.now c.args.pid c.args.worker c.args.form c.args.e c.args.c
    c.in-Some.pool c.in_ok-next.next c.index-hand.result.now (record
    { view = c.self.view_is; sound = c.self.invariant.0; found = sym c.get.ensures ∙ c.in-Some.is; below = c.requires; hand = c.index-hand.ensures })
    (rw c.under.ensures at (sym c.unpin_write.ensures ∙ c.in_ok-next.was)) c.self.inside.disk refl

pub returns-then-eq : goal.returns-then-eq
returns-then-eq c = unpin_write_follows_done (core_of c.self.inside) c.args.self.now c.args.pid c.args.worker c.args.form c.args.e c.args.c c.in-Some.pool
    c.in_ok-next.next c.index-hand.result.now (record {
      view = c.self.view_is;
      sound = c.self.invariant.0;
      found = sym c.get.ensures ∙ c.in-Some.is;
      below =
          c.requires;
      hand = c.index-hand.ensures;
    }) (rw c.under.ensures at (sym c.unpin_write.ensures ∙ c.in_ok-next.was))
    (eq_some c.index-hand.result.now.task c.args.pid c.if-eq.ensures) _ c.finish_task.ensures

pub returns-else-eq : goal.returns-else-eq
returns-else-eq c = unpin_write_follows_other (core_of c.self.inside) c.args.self.now c.args.pid c.args.worker c.args.form c.args.e c.args.c c.in-Some.pool
    c.in_ok-next.next c.index-hand.result.now (record {
      view = c.self.view_is;
      sound = c.self.invariant.0;
      found = sym c.get.ensures ∙ c.in-Some.is;
      below =
          c.requires;
      hand = c.index-hand.ensures;
    }) (rw c.under.ensures at (sym c.unpin_write.ensures ∙ c.in_ok-next.was))
    (ne_some c.index-hand.result.now.task c.args.pid c.if-eq.ensures) c.self.inside.disk refl _ c.change_first.ensures
