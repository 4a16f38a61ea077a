use Rattle.std.proofs.Common.{◌<◌, length, subst, sym, ap, ◌∙◌}
use Rattle.naim_core.specs.State.{hand_at}
use Rattle.naim_core.specs.declared.event.Event.TheVariants as event
use Rattle.naim_loader.proofs.Waves.{claim_given, claim_none, claim_still}
use Rattle.naim_loader.proofs.Wholes.{whole_answered}
use Rattle.naim_loader.proofs.loader.Loader.claim.Goals.{in-Ok, in-Err}
use Rattle.naim_loader.proofs.loader.Loader.claim.Goals as goal

pub invariant_of-self : goal.invariant_of-self
invariant_of-self g c =
    whole_answered _ _ _ _ _ _ c.self.inside.limit c.self.inside.core c.step.new.core (event.Claim c.args.worker) c.step.result c.self.inside.table
    c.self.inside.disk _ c.self.inside.counters c.step.new.counters c.self.invariant c.step.ensures.taken c.step.ensures.refused
    (claim_still c.self.inside.core c.step.new.core c.args.worker)

pub returns-clause-answer : goal.returns-clause-answer
returns-clause-answer g c =
    let below = subst (λ z. c.args.worker < length z.core.hands) (sym c.self.view_is) c.requires.worker in
    let free = ap (λ z. (hand_at z.core.hands c.args.worker).task) c.self.view_is ∙ c.requires.free in
    elim c.match-step.branch [
      | in-Ok w ↦ claim_given c.args.self.now _ c.args.worker c.match-step.result c.step.new.core c.step.new.counters c.self.view_is below c.self.invariant.home
          w.in-Ok.ensures.taken (w.result-is ∙ w.task.ensures)
      | in-Err w ↦ claim_none c.args.self.now _ c.args.worker c.match-step.result _ c.step.new.core c.step.new.counters c.self.view_is free
          w.in-Err.ensures.refused w.result-is
    ]
