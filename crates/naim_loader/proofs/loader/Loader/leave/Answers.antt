use Rattle.std.proofs.Common.{ap, ◌∙◌}
use Rattle.naim_core.specs.State.{pool_at, hand_at}
use Rattle.naim_core.specs.Steps.{step_of}
use Rattle.naim_core.specs.declared.event.Event.TheVariants as event
use Rattle.naim_core.proofs.Effects.{follows_err}
use Rattle.naim_loader.specs.Counting.{Stepped}
use Rattle.naim_loader.proofs.Wholes.{stepped, whole_same}
use Rattle.naim_loader.proofs.Unpins.{unpin_refused, unpin_whole}
use Rattle.naim_loader.proofs.loader.Loader.leave.Goals as goal

pub invariant_of-self : goal.invariant_of-self
invariant_of-self g c =
    let s = c.self.inside.core in let w = c.args.worker in let p = c.args.pin.pid in let f = c.args.form in let x = c.requires.pool.0 in
    let at = ap (λ z. pool_at z.core.pools p) c.self.view_is ∙ c.requires.pool.1 in
    let none = ap (λ z. z.core.failure) c.self.view_is ∙ c.requires.running in
    let t : Stepped s (event.UnpinRead w p f) c.step.new.core c.self.inside.counters c.step.new.counters =
    stepped s (event.UnpinRead w p f) c.step.new.core c.self.inside.counters c.step.new.counters c.in_default.ensures.means c.step.ensures.sound
    c.step.ensures.apart c.step.ensures.limit c.step.ensures.workers c.in_default.ensures.counted in
    unpin_whole _ _ _ _ _ _ c.self.inside.limit w p f s c.step.new.core x c.self.inside.table c.self.inside.disk _ c.self.inside.counters c.step.new.counters
    c.self.invariant none at c.requires.pool.3 t

pub invariant_of-self-2 : goal.invariant_of-self-2
invariant_of-self-2 g c =
    let s = c.self.inside.core in let w = c.args.worker in let p = c.args.pin.pid in let f = c.args.form in let x = c.requires.pool.0 in
    let at = ap (λ z. pool_at z.core.pools p) c.self.view_is ∙ c.requires.pool.1 in
    let none = ap (λ z. z.core.failure) c.self.view_is ∙ c.requires.running in
    let k = follows_err (step_of s (event.UnpinRead w p f)) s c.step.new.core c.in-Err.refusal c.in-Err.ensures.means in
    whole_same _ _ _ _ _ _ c.self.inside.limit s c.step.new.core c.self.inside.table c.self.inside.disk _ c.self.inside.counters c.step.new.counters
    c.self.invariant k.0 c.in-Err.ensures.counted

pub unreachable-requires : goal.unreachable-requires
unreachable-requires g c =
    let s = c.self.inside.core in let w = c.args.worker in let p = c.args.pin.pid in let f = c.args.form in let x = c.requires.pool.0 in
    let at = ap (λ z. pool_at z.core.pools p) c.self.view_is ∙ c.requires.pool.1 in
    let none = ap (λ z. z.core.failure) c.self.view_is ∙ c.requires.running in
    let k = follows_err (step_of s (event.UnpinRead w p f)) s c.step.new.core c.in-Err.refusal c.in-Err.ensures.means in
    let held = ap (λ z. (hand_at z.core.hands w).read) c.self.view_is ∙ c.requires.held in
    let short = (c.self.invariant.sound.forms_fit p x at).within in
    c.in_default-refusal.not-NeedsRoom _ (unpin_refused s w p f x c.in-Err.refusal none at c.requires.pool.2 held short k.1)
