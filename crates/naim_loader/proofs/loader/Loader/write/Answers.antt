use Rattle.std.proofs.Common.{length, arith, refl, sym, ap, subst, ◌∙◌, inl, inr}
use Rattle.std.specs.Prelude.{is_none}
use Rattle.naim_core.specs.State.{pool_at, hand_at}
use Rattle.naim_core.proofs.Effects.{unpin_write_did}
use Rattle.naim_loader.specs.Drafts.{draft_value, draft_form}
use Rattle.naim_loader.specs.Forms.{LiesIn}
use Rattle.naim_loader.proofs.Wholes.{there, whole_refused}
use Rattle.naim_loader.proofs.Views.{written_view}
use Rattle.naim_loader.proofs.Writes.{write_refused, write_whole}
use Rattle.naim_loader.proofs.loader.Loader.write.Goals as goal

pub renew-requires : goal.renew-requires
renew-requires g c =
    let at = ap (λ z. pool_at z.core.pools c.args.pin.pid) c.self.view_is ∙ c.requires.pool.1 in
    let t = there _ _ _ _ _ _ c.self.inside.limit c.self.inside.core c.self.inside.table c.self.inside.disk _ c.self.inside.counters c.args.pin.pid
    c.requires.pool.0 c.self.invariant at in let e = t.at in rw e refl

pub invariant_of-self : goal.invariant_of-self
invariant_of-self g c =
    let s = c.self.inside.core in let d = c.args.draft in let p = c.args.pin.pid in let f = c.form-form.result in let e = c.charge-e.result in let n =
    c.compact_len-c.result in
    let at = ap (λ z. pool_at z.core.pools p) c.self.view_is ∙ c.requires.pool.1 in
    let none = ap (λ z. z.core.failure) c.self.view_is ∙ c.requires.running in
    let th = there _ _ _ _ _ _ c.self.inside.limit s c.self.inside.table c.self.inside.disk _ c.self.inside.counters p c.requires.pool.0 c.self.invariant at in
    let seen = c.into_parts-body.ensures.value in
    write_whole _ _ _ _ _ _ c.self.inside.limit c.args.worker p s c.step.new.core c.self.inside.table c.renew.new.self c.self.inside.disk _
    c.self.inside.counters c.step.new.counters f e n
    (record { body = c.into_parts-body.result.0; value = c.into_parts-body.result.1; brief = c.args.brief }) c.self.invariant none c.in-Ok.ensures.taken
    c.renew.ensures th.standing.below (subst g.T.Poolable.is_value (sym seen) c.compact_len-c.ensures.value)
    (c.charge-e.ensures ∙ ap g.T.Poolable.charge_of (sym seen))
    (c.compact_len-c.ensures.len ∙ ap (λ z. length (g.T.Poolable.encoding z)) (sym seen))
    (subst (λ z. LiesIn g.T.Poolable.encoding z c.into_parts-body.result.0 c.into_parts-body.result.1.value) (sym c.form-form.ensures)
    (subst (λ z. LiesIn g.T.Poolable.encoding (draft_form d) c.into_parts-body.result.0 z) (sym seen) c.into_parts-body.ensures.body))

pub returns-in-Ok-clause-answer : goal.returns-in-Ok-clause-answer
returns-in-Ok-clause-answer g c =
    let s = c.self.inside.core in let d = c.args.draft in let p = c.args.pin.pid in let f = c.form-form.result in let e = c.charge-e.result in let n =
    c.compact_len-c.result in
    let at = ap (λ z. pool_at z.core.pools p) c.self.view_is ∙ c.requires.pool.1 in
    let none = ap (λ z. z.core.failure) c.self.view_is ∙ c.requires.running in
    let th = there _ _ _ _ _ _ c.self.inside.limit s c.self.inside.table c.self.inside.disk _ c.self.inside.counters p c.requires.pool.0 c.self.invariant at in
    let t = c.in-Ok.ensures.taken in
    written_view g.T.Poolable.charge_of g.T.Poolable.encoding c.args.self.now _ c.self.inside.table c.renew.new.self c.args.worker p d c.args.brief
    (record { body = c.into_parts-body.result.0; value = c.into_parts-body.result.1; brief = c.args.brief }) th.entry f e n c.step.new.core c.step.new.counters
    c.self.view_is refl th.at
    (c.self.invariant.home none ∙ ap is_none (sym (unpin_write_did s c.step.new.core c.args.worker p f e n c.self.invariant.sound none t.step).turned.disk_is))
    t c.renew.ensures c.form-form.ensures c.charge-e.ensures c.compact_len-c.ensures.len
    (ap (λ z. record { value = z; brief = c.args.brief }) c.into_parts-body.ensures.value)

pub invariant_of-self-in-NeedsRoom : goal.invariant_of-self-in-NeedsRoom
invariant_of-self-in-NeedsRoom g c =
    whole_refused _ _ _ _ _ _ c.self.inside.limit c.self.inside.core c.step.new.core _ _ c.self.inside.table c.self.inside.disk _ c.self.inside.counters
    c.step.new.counters c.self.invariant c.in-Err.ensures.refused

pub invariant_of-self-in-TooSmall : goal.invariant_of-self-in-TooSmall
invariant_of-self-in-TooSmall g c =
    whole_refused _ _ _ _ _ _ c.self.inside.limit c.self.inside.core c.step.new.core _ _ c.self.inside.table c.self.inside.disk _ c.self.inside.counters
    c.step.new.counters c.self.invariant c.in-Err.ensures.refused

pub unreachable-requires : goal.unreachable-requires
unreachable-requires g c =
    let s = c.self.inside.core in let w = c.args.worker in let p = c.args.pin.pid in let f = c.form-form.result in let e = c.charge-e.result in let n =
    c.compact_len-c.result in let x = c.requires.pool.0 in
    let at = ap (λ z. pool_at z.core.pools p) c.self.view_is ∙ c.requires.pool.1 in
    let none = ap (λ z. z.core.failure) c.self.view_is ∙ c.requires.running in
    let held = ap (λ z. (hand_at z.core.hands w).written) c.self.view_is ∙ c.requires.held in
    let b = g.met.T.Poolable.bounds (draft_value c.args.draft) c.compact_len-c.ensures.value in
    let low = b.1 in let high = b.2 in let ce = c.charge-e.ensures in let cl = c.compact_len-c.ensures.len in let room = c.requires.pool.3 in
    elim (write_refused s w p f e n x c.in-Err.refusal none at c.requires.pool.2 held (omega arith) (omega arith) (omega arith) c.in-Err.ensures.refused.step)
    [ inl h ↦ c.in_default.not-TooSmall n h | inr h ↦ c.in_default.not-NeedsRoom _ h ]
