use Rattle.naim_core.specs.declared.event.Event.TheVariants as event
use Rattle.naim_loader.proofs.Waves.{end_still}
use Rattle.naim_loader.proofs.Wholes.{whole_answered}
use Rattle.naim_loader.proofs.loader.Loader.end_wave.Goals as goal

pub invariant_of-self : goal.invariant_of-self
invariant_of-self g c =
    whole_answered _ _ _ _ _ _ c.self.inside.limit c.self.inside.core c.step.new.core event.EndWave c.step.result c.self.inside.table c.self.inside.disk _
    c.self.inside.counters c.step.new.counters c.self.invariant c.step.ensures.taken c.step.ensures.refused
    (end_still c.self.inside.core c.step.new.core)
