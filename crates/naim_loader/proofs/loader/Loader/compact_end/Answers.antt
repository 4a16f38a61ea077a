use Rattle.std.proofs.Common.{◌≡◌, refl, ap, sym, subst, ◌∙◌}
use Rattle.std.specs.Prelude.{is_none, option_map}
use Rattle.naim_core.specs.declared.event.Event.TheVariants as event
use Rattle.naim_core.specs.declared.pool.Stage.TheVariants as stage
use Rattle.naim_core.proofs.Effects.{compact_end_did}
use Rattle.std.proofs.lemmas.Option.{same_Some}
use Rattle.naim_loader.specs.Counting.{Stepped}
use Rattle.naim_loader.specs.Moves.{EndsCompaction, IsMoving, pid_of}
use Rattle.naim_loader.specs.Paged.{content_at}
use Rattle.naim_loader.specs.Rows.{kept_of}
use Rattle.naim_loader.proofs.Ends.{compact_end_taken, compact_end_whole, no_compaction}
use Rattle.naim_loader.proofs.Wholes.{ran, there, whole_refused}
use Rattle.naim_loader.proofs.Views.{kept_lookup, steps_view}
use Rattle.naim_loader.proofs.loader.Loader.compact_end.Goals as goal

pub unreachable-requires : goal.unreachable-requires
unreachable-requires g c = no_compaction g.T.Poolable.encoding c.args.self.now c.args.worker c.args.m c.args.bytes.items c.requires.ends
    c.in_default.not-Compacting

pub put-requires : goal.put-requires
put-requires g c =
    let p = c.in-Compacting.pid in
    let asked = subst (λ z. EndsCompaction g.T.Poolable.encoding c.args.self.now c.args.worker z c.args.bytes.items) c.in-Compacting.is c.requires.ends in
    let moving = subst (λ z. IsMoving z.core c.args.worker p (λ st. st ≡ stage.Compacting)) (sym c.self.view_is) asked.0 in
    let t = there _ _ _ _ _ _ c.self.inside.limit c.self.inside.core c.self.inside.table c.self.inside.disk _ c.self.inside.counters p moving.pool
    c.self.invariant moving.at in let e = t.at in rw e refl

pub invariant_of-self : goal.invariant_of-self
invariant_of-self g c =
    whole_refused _ _ _ _ _ _ c.self.inside.limit c.self.inside.core c.step.new.core _ _ c.self.inside.table c.self.inside.disk _ c.self.inside.counters
    c.step.new.counters c.self.invariant c.in_default-step.ensures.refused

pub returns-in_default-step-clause-ends : goal.returns-in_default-step-clause-ends
returns-in_default-step-clause-ends g c running =
    let p = c.in-Compacting.pid in
    let asked = subst (λ z. EndsCompaction g.T.Poolable.encoding c.args.self.now c.args.worker z c.args.bytes.items) c.in-Compacting.is c.requires.ends in
    let moving = subst (λ z. IsMoving z.core c.args.worker p (λ st. st ≡ stage.Compacting)) (sym c.self.view_is) asked.0 in
    absurd (compact_end_taken c.self.inside.core c.args.worker p _ (ap (λ z. z.core.failure) c.self.view_is ∙ running) moving
    c.in_default-step.ensures.refused.step)

pub invariant_of-self-2 : goal.invariant_of-self-2
invariant_of-self-2 g c =
    let p = c.in-Compacting.pid in
    let asked = subst (λ z. EndsCompaction g.T.Poolable.encoding c.args.self.now c.args.worker z c.args.bytes.items) c.in-Compacting.is c.requires.ends in
    let moving = subst (λ z. IsMoving z.core c.args.worker p (λ st. st ≡ stage.Compacting)) (sym c.self.view_is) asked.0 in
    let s = c.self.inside.core in let t = c.in-Ok.ensures.taken in
    let none = ran s c.step.new.core (event.CompactEnd c.args.worker p) refl t.step in
    let content = ap (option_map (λ z. z.value)) (kept_lookup c.self.inside.table p ∙ ap (option_map kept_of) c.put.ensures.at) in
    let same = same_Some _ _ (sym content ∙ ap (λ z. content_at z p) c.self.view_is ∙ asked.1) in
    compact_end_whole _ _ _ _ _ _ c.self.inside.limit c.args.worker p s c.step.new.core c.args.bytes c.put.result c.self.inside.table c.put.new.self
    c.self.inside.disk _ c.self.inside.counters c.step.new.counters c.self.invariant none t c.put.ensures
    (asked.2 ∙ ap g.T.Poolable.encoding (sym same))

pub returns-clause-ends : goal.returns-clause-ends
returns-clause-ends g c running =
    let s = c.self.inside.core in let w = c.args.worker in let p = pid_of c.args.m in
    let t = subst (λ z. Stepped s (event.CompactEnd w z) c.step.new.core c.self.inside.counters c.step.new.counters) (sym (ap pid_of c.in-Compacting.is))
    c.in-Ok.ensures.taken in
    let none = ap (λ z. z.core.failure) c.self.view_is ∙ running in
    let d = compact_end_did s c.step.new.core w p c.self.invariant.sound none t.step in
    steps_view c.args.self.now _ (event.CompactEnd w p) c.step.new.core c.step.new.counters _ _ _ c.self.view_is t c.put.ensures.kept refl
    (c.self.invariant.home none ∙ ap is_none (sym d.turned.disk_is))
