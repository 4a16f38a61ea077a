use Rattle.std.proofs.Common.{◌*◌, Some, refl, sym, ap, subst, ◌∙◌}
use Rattle.std.specs.Prelude.{is_none, option_map}
use Rattle.naim_core.specs.State.{pool_at}
use Rattle.naim_core.specs.declared.event.Event.TheVariants as event
use Rattle.naim_core.specs.declared.event.Mode.TheVariants as mode
use Rattle.naim_core.proofs.Effects.{pin_write_did}
use Rattle.naim_loader.specs.declared.table.Lying.TheVariants as lying
use Rattle.naim_loader.specs.Calls.{Allows}
use Rattle.naim_loader.specs.Forms.{LiesAs}
use Rattle.naim_loader.specs.Paged.{content_at}
use Rattle.naim_loader.specs.Rows.{kept_of}
use Rattle.naim_loader.proofs.Events.{not_other}
use Rattle.naim_loader.proofs.Wholes.{put_lies, there}
use Rattle.naim_loader.proofs.Views.{kept_lookup, steps_view}
use Rattle.naim_loader.proofs.Writes.{pin_write_taken, pin_write_whole}
use Rattle.naim_loader.proofs.loader.Loader.hand_out.Goals as goal

pub unreachable-requires : goal.unreachable-requires
unreachable-requires g c =
    let p = c.args.pid in
    let at = ap (λ z. pool_at z.core.pools p) c.self.view_is ∙ c.requires.pool.1 in
    let none = ap (λ z. z.core.failure) c.self.view_is ∙ c.requires.running in
    let allowed = subst (λ z. Allows z.core c.args.worker p (mode.Write c.args.room)) (sym c.self.view_is) c.requires.allowed in
    pin_write_taken c.self.inside.core c.args.worker p c.args.room c.requires.pool.0 c.in_default.field-0 none at c.requires.pool.2 allowed
    c.in_default.ensures.refused.step

pub put-requires : goal.put-requires
put-requires g c =
    let at = ap (λ z. pool_at z.core.pools c.args.pid) c.self.view_is ∙ c.requires.pool.1 in
    let t = there _ _ _ _ _ _ c.self.inside.limit c.self.inside.core c.self.inside.table c.self.inside.disk _ c.self.inside.counters c.args.pid
    c.requires.pool.0 c.self.invariant at in let e = t.at in rw e refl

pub invariant_of-self : goal.invariant_of-self
invariant_of-self g c =
    let none = ap (λ z. z.core.failure) c.self.view_is ∙ c.requires.running in
    pin_write_whole _ _ _ _ _ _ c.self.inside.limit c.args.worker c.args.pid c.args.room c.self.inside.core c.step.new.core c.self.inside.table c.put.new.self
    c.self.inside.disk _ c.self.inside.counters c.step.new.counters (lying.Whole c.in-Whole.body) c.self.invariant none
    c.in-Ok.ensures.taken c.in-Whole.ensures

pub unreachable-requires-in_default-put : goal.unreachable-requires-in_default-put
unreachable-requires-in_default-put g c =
    let p = c.args.pid in
    let at = ap (λ z. pool_at z.core.pools p) c.self.view_is ∙ c.requires.pool.1 in
    let none = ap (λ z. z.core.failure) c.self.view_is ∙ c.requires.running in
    let l = put_lies _ _ _ _ _ _ c.self.inside.limit c.self.inside.core c.self.inside.table c.put.new.self c.self.inside.disk _ c.self.inside.counters p
    c.requires.pool.0 lying.Out c.put.result c.self.invariant none at c.put.ensures in
    not_other g.T.Poolable.encoding c.put.result c.put.ensures.entry.value.value
    (subst (λ z. LiesAs g.T.Poolable.encoding (p * c.self.inside.limit) z c.put.result c.put.ensures.entry.value.value) c.requires.pool.2 l)
    c.in_default-put.not-Whole

pub returns-clause-answer : goal.returns-clause-answer
returns-clause-answer g c =
    let s = c.self.inside.core in let p = c.args.pid in
    let at = ap (λ z. pool_at z.core.pools p) c.self.view_is ∙ c.requires.pool.1 in
    let none = ap (λ z. z.core.failure) c.self.view_is ∙ c.requires.running in
    let t = c.in-Ok.ensures.taken in
    let d = pin_write_did s c.step.new.core c.args.worker p c.args.room c.self.invariant.sound none t.step in
    let put = c.in-Whole.ensures in
    let l = put_lies _ _ _ _ _ _ c.self.inside.limit s c.self.inside.table c.put.new.self c.self.inside.disk _ c.self.inside.counters p c.requires.pool.0
    lying.Out (lying.Whole c.in-Whole.body) c.self.invariant none at put in
    let same = subst (λ z. LiesAs g.T.Poolable.encoding (p * c.self.inside.limit) z (lying.Whole c.in-Whole.body) put.entry.value.value) c.requires.pool.2 l in
    let content = ap (λ z. content_at z p) (sym c.self.view_is) ∙ ap (option_map (λ z. z.value))
    (kept_lookup c.self.inside.table p ∙ ap (option_map kept_of) put.at) ∙ ap (λ z. Some z) (sym same) in (
      steps_view c.args.self.now _ (event.PinWrite c.args.worker p c.args.room) c.step.new.core c.step.new.counters _ _ _ c.self.view_is t put.kept refl
          (c.self.invariant.home none ∙ ap is_none (sym d.turned.disk_is)),
      (refl, content),
    )
