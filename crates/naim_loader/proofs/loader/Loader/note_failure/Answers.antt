use Rattle.std.proofs.Common.{ap}
use Rattle.naim_core.specs.declared.event.Event.TheVariants as event
use Rattle.naim_loader.proofs.Inserts.{fail_stepped, failed_is, still_failed}
use Rattle.naim_loader.proofs.Wholes.{fail_whole}
use Rattle.naim_loader.proofs.loader.Loader.note_failure.Goals as goal

pub invariant_of-self : goal.invariant_of-self
invariant_of-self g c =
    let s = c.self.inside.core in let w = c.args.worker in let f = c.args.failure in let e = c.step.ensures in
    let is = failed_is s c.step.new.core w f c.step.result e.means in
    fail_whole _ _ _ _ _ _ c.self.inside.limit s c.step.new.core (event.Fail w f) c.self.inside.table c.self.inside.disk _ c.self.inside.counters
    c.step.new.counters c.self.invariant
    (fail_stepped s c.step.new.core w f c.self.inside.counters c.step.new.counters c.step.result e.means e.sound e.apart e.limit e.workers e.counted)
    (ap (λ z. z.pools) is) (still_failed s c.step.new.core f is)
