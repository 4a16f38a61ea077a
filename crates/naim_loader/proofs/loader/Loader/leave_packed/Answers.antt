use Rattle.std.proofs.Common.{refl, sym, ap, ◌∙◌}
use Rattle.std.specs.Prelude.{option_map, is_none}
use Rattle.naim_core.specs.State.{pool_at, hand_at}
use Rattle.naim_core.specs.Steps.{step_of}
use Rattle.naim_core.specs.declared.event.Event.TheVariants as event
use Rattle.naim_core.specs.declared.event.Form.TheVariants as form
use Rattle.naim_core.proofs.Effects.{follows_err, unpin_read_did}
use Rattle.std.proofs.lemmas.Option.{same_Some}
use Rattle.naim_loader.specs.Counting.{Stepped}
use Rattle.naim_loader.specs.Paged.{content_at}
use Rattle.naim_loader.specs.Rows.{kept_of}
use Rattle.naim_loader.proofs.Wholes.{stepped, whole_same, there}
use Rattle.naim_loader.proofs.Views.{kept_lookup, steps_view}
use Rattle.naim_loader.proofs.Unpins.{unpin_refused, unpin_packed}
use Rattle.naim_loader.proofs.loader.Loader.leave_packed.Goals as goal

pub put-requires : goal.put-requires
put-requires g c =
    let s = c.self.inside.core in let w = c.args.worker in let p = c.args.pin.pid in let f = form.Compacted in let x = c.requires.pool.0 in
    let at = ap (λ z. pool_at z.core.pools p) c.self.view_is ∙ c.requires.pool.1 in
    let none = ap (λ z. z.core.failure) c.self.view_is ∙ c.requires.running in
    let t = there _ _ _ _ _ _ c.self.inside.limit s c.self.inside.table c.self.inside.disk _ c.self.inside.counters p x c.self.invariant at in let e = t.at
    in rw e refl

pub invariant_of-self : goal.invariant_of-self
invariant_of-self g c =
    let s = c.self.inside.core in let w = c.args.worker in let p = c.args.pin.pid in let f = form.Compacted in let x = c.requires.pool.0 in
    let at = ap (λ z. pool_at z.core.pools p) c.self.view_is ∙ c.requires.pool.1 in
    let none = ap (λ z. z.core.failure) c.self.view_is ∙ c.requires.running in
    let t : Stepped s (event.UnpinRead w p f) c.step.new.core c.self.inside.counters c.step.new.counters =
    stepped s (event.UnpinRead w p f) c.step.new.core c.self.inside.counters c.step.new.counters c.in-Ok.ensures.means c.step.ensures.sound c.step.ensures.apart
    c.step.ensures.limit c.step.ensures.workers c.in-Ok.ensures.counted in
    let content = ap (option_map (λ z. z.value)) (kept_lookup c.self.inside.table p ∙ ap (option_map kept_of) c.put.ensures.at) in
    let same = same_Some _ _ (sym content ∙ ap (λ z. content_at z p) c.self.view_is ∙ c.requires.content) in
    unpin_packed _ _ _ _ _ _ c.self.inside.limit w p s c.step.new.core x c.args.bytes c.put.result c.self.inside.table c.put.new.self c.self.inside.disk _
    c.self.inside.counters c.step.new.counters c.self.invariant none at c.requires.pool.3 t c.put.ensures
    (c.requires.spelled ∙ ap g.T.Poolable.encoding (sym same))

pub invariant_of-self-in-Err-1 : goal.invariant_of-self-in-Err-1
invariant_of-self-in-Err-1 g c =
    let s = c.self.inside.core in let w = c.args.worker in let p = c.args.pin.pid in let f = form.Compacted in let x = c.requires.pool.0 in
    let at = ap (λ z. pool_at z.core.pools p) c.self.view_is ∙ c.requires.pool.1 in
    let none = ap (λ z. z.core.failure) c.self.view_is ∙ c.requires.running in
    let k = follows_err (step_of s (event.UnpinRead w p f)) s c.step.new.core c.in-Err.refusal c.in-Err.ensures.means in
    whole_same _ _ _ _ _ _ c.self.inside.limit s c.step.new.core c.self.inside.table c.self.inside.disk _ c.self.inside.counters c.step.new.counters
    c.self.invariant k.0 c.in-Err.ensures.counted

pub unreachable-requires : goal.unreachable-requires
unreachable-requires g c =
    let s = c.self.inside.core in let w = c.args.worker in let p = c.args.pin.pid in let f = form.Compacted in let x = c.requires.pool.0 in
    let at = ap (λ z. pool_at z.core.pools p) c.self.view_is ∙ c.requires.pool.1 in
    let none = ap (λ z. z.core.failure) c.self.view_is ∙ c.requires.running in
    let k = follows_err (step_of s (event.UnpinRead w p f)) s c.step.new.core c.in-Err.refusal c.in-Err.ensures.means in
    let held = ap (λ z. (hand_at z.core.hands w).read) c.self.view_is ∙ c.requires.held in
    let short = (c.self.invariant.sound.forms_fit p x at).within in
    c.in_default.not-NeedsRoom _ (unpin_refused s w p f x c.in-Err.refusal none at c.requires.pool.2 held short k.1)

pub returns-in-Ok-clause-answer : goal.returns-in-Ok-clause-answer
returns-in-Ok-clause-answer g c =
    let s = c.self.inside.core in let w = c.args.worker in let p = c.args.pin.pid in let f = form.Compacted in let x = c.requires.pool.0 in
    let at = ap (λ z. pool_at z.core.pools p) c.self.view_is ∙ c.requires.pool.1 in
    let none = ap (λ z. z.core.failure) c.self.view_is ∙ c.requires.running in
    let t : Stepped s (event.UnpinRead w p f) c.step.new.core c.self.inside.counters c.step.new.counters =
    stepped s (event.UnpinRead w p f) c.step.new.core c.self.inside.counters c.step.new.counters c.in-Ok.ensures.means c.step.ensures.sound c.step.ensures.apart
    c.step.ensures.limit c.step.ensures.workers c.in-Ok.ensures.counted in
    let d = unpin_read_did s c.step.new.core w p f c.self.invariant.sound none t.step in
    steps_view c.args.self.now _ (event.UnpinRead w p f) c.step.new.core c.step.new.counters _ _ _ c.self.view_is t c.put.ensures.kept refl
    (c.self.invariant.home none ∙ ap is_none (sym d.turned.disk_is))
