use Rattle.std.proofs.Common.{ap, ◌∙◌}
use Rattle.naim_core.specs.declared.event.Event.TheVariants as event
use Rattle.naim_loader.proofs.Wholes.{stepped}
use Rattle.naim_loader.proofs.Events.{pin_read_whole}
use Rattle.naim_loader.proofs.loader.Loader.note_reader.Goals as goal

pub invariant_of-self : goal.invariant_of-self
invariant_of-self g c =
    let s = c.self.inside.core in let w = c.args.worker in let p = c.args.pid in
    pin_read_whole _ _ _ _ _ _ c.self.inside.limit w p s c.step.new.core c.self.inside.table c.self.inside.disk _ c.self.inside.counters c.step.new.counters
    c.self.invariant (ap (λ z. z.core.failure) c.self.view_is ∙ c.requires.running)
    (stepped s (event.PinRead w p) c.step.new.core c.self.inside.counters c.step.new.counters c.in-Ok.ensures.means c.step.ensures.sound c.step.ensures.apart
    c.step.ensures.limit c.step.ensures.workers c.in-Ok.ensures.counted)
