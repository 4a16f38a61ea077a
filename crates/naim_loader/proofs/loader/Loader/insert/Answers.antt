use Rattle.std.proofs.Common.{length, arith, refl, sym, ap, subst, ◌∙◌, inl, inr}
use Rattle.std.specs.Prelude.{is_some, is_none}
use Rattle.naim_core.specs.declared.event.Event.TheVariants as event
use Rattle.naim_core.proofs.Effects.{follows_err, no_failure, insert_did}
use Rattle.naim_loader.specs.Drafts.{draft_value, draft_form}
use Rattle.naim_loader.specs.Forms.{LiesIn}
use Rattle.naim_loader.specs.Paged.{kept_at}
use Rattle.naim_loader.specs.Counting.{Stepped}
use Rattle.naim_core.specs.Steps.{step_of}
use Rattle.naim_loader.proofs.Wholes.{stepped, whole_same}
use Rattle.naim_loader.proofs.Views.{inserted_view}
use Rattle.naim_loader.proofs.Inserts.{row_absent, few_rows, no_pool, insert_whole, insert_refused}
use Rattle.naim_loader.proofs.loader.Loader.insert.Goals as goal

pub add-requires-clause-absent : goal.add-requires-clause-absent
add-requires-clause-absent g c = row_absent c.self.inside.table c.args.pid (ap (λ z. kept_at z c.args.pid) c.self.view_is ∙ c.requires.absent)

pub add-requires-clause-room : goal.add-requires-clause-room
add-requires-clause-room g c =
    let few = few_rows _ _ _ _ _ _ c.self.inside.limit c.self.inside.core c.self.inside.table c.self.inside.disk _ c.self.inside.counters c.self.invariant in
    let same = ap (λ z. length z.core.pools) c.self.view_is in let room = c.requires.room in omega arith

pub invariant_of-self : goal.invariant_of-self
invariant_of-self g c =
    let s = c.self.inside.core in let d = c.args.draft in let p = c.args.pid in let f = c.form-form.result in let e = c.charge-e.result in let n =
    c.compact_len-c.result in
    let none = no_failure s.failure (ap (λ z. is_some z.core.failure) c.self.view_is ∙ sym c.is_stopped.ensures.kept ∙ c.if-is_stopped.false) in
    let seen = c.into_parts-body.ensures.value in
    insert_whole _ _ _ _ _ _ c.self.inside.limit p s c.step.new.core c.self.inside.table c.add.new.self c.self.inside.disk _ c.self.inside.counters
    c.step.new.counters f e n
    (record { body = c.into_parts-body.result.0; value = c.into_parts-body.result.1; brief = c.args.brief }) c.self.invariant none
    (stepped s (event.Insert p f e n) c.step.new.core c.self.inside.counters c.step.new.counters c.in-Ok.ensures.means c.step.ensures.sound c.step.ensures.apart
    c.step.ensures.limit c.step.ensures.workers c.in-Ok.ensures.counted)
    c.add.ensures c.requires.below (subst g.T.Poolable.is_value (sym seen) c.compact_len-c.ensures.value)
    (c.charge-e.ensures ∙ ap g.T.Poolable.charge_of (sym seen))
    (c.compact_len-c.ensures.len ∙ ap (λ z. length (g.T.Poolable.encoding z)) (sym seen))
    (subst (λ z. LiesIn g.T.Poolable.encoding z c.into_parts-body.result.0 c.into_parts-body.result.1.value) (sym c.form-form.ensures)
    (subst (λ z. LiesIn g.T.Poolable.encoding (draft_form d) c.into_parts-body.result.0 z) (sym seen) c.into_parts-body.ensures.body))

pub returns-in-Ok-clause-answer : goal.returns-in-Ok-clause-answer
returns-in-Ok-clause-answer g c =
    let s = c.self.inside.core in let d = c.args.draft in let p = c.args.pid in let f = c.form-form.result in let e = c.charge-e.result in let n =
    c.compact_len-c.result in
    let none = no_failure s.failure (ap (λ z. is_some z.core.failure) c.self.view_is ∙ sym c.is_stopped.ensures.kept ∙ c.if-is_stopped.false) in
    let t : Stepped s (event.Insert p f e n) c.step.new.core c.self.inside.counters c.step.new.counters =
    stepped s (event.Insert p f e n) c.step.new.core c.self.inside.counters c.step.new.counters c.in-Ok.ensures.means c.step.ensures.sound c.step.ensures.apart
    c.step.ensures.limit c.step.ensures.workers c.in-Ok.ensures.counted in
    inserted_view g.T.Poolable.charge_of g.T.Poolable.encoding c.args.self.now _ c.self.inside.table c.add.new.self p d c.args.brief
    (record { body = c.into_parts-body.result.0; value = c.into_parts-body.result.1; brief = c.args.brief }) f e n c.step.new.core c.step.new.counters _
    c.self.view_is refl
    (c.self.invariant.home none ∙ ap is_none (sym (insert_did s c.step.new.core p f e n none t.step).disk_is)) t c.add.ensures c.form-form.ensures
    c.charge-e.ensures c.compact_len-c.ensures.len
    (ap (λ z. record { value = z; brief = c.args.brief }) c.into_parts-body.ensures.value) c.after.ensures

pub invariant_of-self-in-NeedsRoom : goal.invariant_of-self-in-NeedsRoom
invariant_of-self-in-NeedsRoom g c =
    let s = c.self.inside.core in let k = follows_err (step_of s (event.Insert c.args.pid c.form-form.result c.charge-e.result c.compact_len-c.result)) s
    c.step.new.core c.in-Err.refusal c.in-Err.ensures.means in
    whole_same _ _ _ _ _ _ c.self.inside.limit s c.step.new.core c.self.inside.table c.self.inside.disk _ c.self.inside.counters c.step.new.counters
    c.self.invariant k.0 c.in-Err.ensures.counted

pub invariant_of-self-in-TooSmall : goal.invariant_of-self-in-TooSmall
invariant_of-self-in-TooSmall g c =
    let s = c.self.inside.core in let k = follows_err (step_of s (event.Insert c.args.pid c.form-form.result c.charge-e.result c.compact_len-c.result)) s
    c.step.new.core c.in-Err.refusal c.in-Err.ensures.means in
    whole_same _ _ _ _ _ _ c.self.inside.limit s c.step.new.core c.self.inside.table c.self.inside.disk _ c.self.inside.counters c.step.new.counters
    c.self.invariant k.0 c.in-Err.ensures.counted

pub unreachable-requires : goal.unreachable-requires
unreachable-requires g c =
    let s = c.self.inside.core in let p = c.args.pid in let f = c.form-form.result in let e = c.charge-e.result in let n = c.compact_len-c.result in
    let k = follows_err (step_of s (event.Insert p f e n)) s c.step.new.core c.in-Err.refusal c.in-Err.ensures.means in
    let none = no_failure s.failure (ap (λ z. is_some z.core.failure) c.self.view_is ∙ sym c.is_stopped.ensures.kept ∙ c.if-is_stopped.false) in
    let absent = row_absent c.self.inside.table p (ap (λ z. kept_at z p) c.self.view_is ∙ c.requires.absent) in
    let gone = no_pool _ _ _ _ _ _ c.self.inside.limit s c.self.inside.table c.self.inside.disk _ c.self.inside.counters p c.self.invariant absent in
    let b = g.met.T.Poolable.bounds (draft_value c.args.draft) c.compact_len-c.ensures.value in
    let low = b.1 in let high = b.2 in let ce = c.charge-e.ensures in let cl = c.compact_len-c.ensures.len in
    let room = c.requires.room in let same = ap (λ z. length z.core.pools) c.self.view_is in
    elim (insert_refused s p f e n c.in-Err.refusal none gone (omega arith) (omega arith) (omega arith) k.1)
    [ inl h ↦ c.in_default.not-TooSmall n h | inr h ↦ c.in_default.not-NeedsRoom _ h ]
