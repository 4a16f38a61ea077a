use Rattle.std.proofs.Common.{◌<◌, ◌≤◌, ◌+◌, ◌*◌, ◌^◌, length, Err, refl, sym, ap, subst, arith, ◌∙◌}
use Rattle.std.specs.Prelude.{is_none, option_map}
use Rattle.naim_core.specs.Charges.{under_sum}
use Rattle.naim_core.specs.State.{pool_at, hand_at, victim}
use Rattle.naim_core.specs.Steps.{step_of}
use Rattle.naim_core.specs.declared.event.Event.TheVariants as event
use Rattle.naim_core.proofs.Effects.{offload_begin_did}
use Rattle.naim_loader.specs.declared.table.Lying.TheVariants as lying
use Rattle.naim_loader.specs.Forms.{LiesAs}
use Rattle.naim_loader.specs.Paged.{content_at}
use Rattle.naim_loader.specs.Rows.{kept_of}
use Rattle.naim_loader.proofs.Evictions.{its_length, not_packed, offload_begin_refused, offload_begin_whole, place_fits, place_within}
use Rattle.naim_loader.proofs.Wholes.{put_lies, there, whole_refused}
use Rattle.naim_loader.proofs.Views.{kept_lookup, same_view, steps_view}
use Rattle.naim_loader.proofs.loader.Loader.begin_offload.Goals as goal

pub put-requires : goal.put-requires
put-requires g c =
    let s = c.self.inside.core in let w = c.args.worker in let p = c.args.pid in let x = c.requires.pool.0 in
    let at = ap (λ z. pool_at z.core.pools p) c.self.view_is ∙ c.requires.pool.1 in
    let none = ap (λ z. z.core.failure) c.self.view_is ∙ c.requires.running in
    let t = there _ _ _ _ _ _ c.self.inside.limit s c.self.inside.table c.self.inside.disk _ c.self.inside.counters p x c.self.invariant at in let e = t.at
    in rw e refl

pub invariant_of-self : goal.invariant_of-self
invariant_of-self g c =
    whole_refused _ _ _ _ _ _ c.self.inside.limit c.self.inside.core c.step.new.core _ _ c.self.inside.table c.self.inside.disk _ c.self.inside.counters
    c.step.new.counters c.self.invariant c.in_default.ensures.refused

pub returns-in_default-clause-answer : goal.returns-in_default-clause-answer
returns-in_default-clause-answer g c =
    let s = c.self.inside.core in let w = c.args.worker in let p = c.args.pid in let x = c.requires.pool.0 in
    let at = ap (λ z. pool_at z.core.pools p) c.self.view_is ∙ c.requires.pool.1 in
    let none = ap (λ z. z.core.failure) c.self.view_is ∙ c.requires.running in
    let free = ap (λ z. (hand_at z.core.hands w).moved) c.self.view_is ∙ c.requires.free in
    let last = ap (λ z. victim z.core.pools) c.self.view_is ∙ c.requires.victim in
    let room = subst (λ z. z.core.limit < under_sum z.core.pools + c.args.wanted) (sym c.self.view_is) c.requires.wanted in
    let f = c.in_default.ensures.refused in
    let out = offload_begin_refused s w p c.args.wanted x c.in_default.field-0 none at c.requires.pool.2 free last room f.step in (
      same_view c.args.self.now _ c.step.new.core c.step.new.counters c.self.view_is f.same f.counts,
      c.requires.wanted,
      (p, c.requires.victim, ap (λ z. step_of z.core (event.OffloadBegin w p c.args.wanted)) (sym c.self.view_is) ∙ f.step ∙ ap (λ z. Err z) out),
    )

pub overflow_mul-place : goal.overflow_mul-place
overflow_mul-place g c =
    let s = c.self.inside.core in let w = c.args.worker in let p = c.args.pid in let x = c.requires.pool.0 in
    let at = ap (λ z. pool_at z.core.pools p) c.self.view_is ∙ c.requires.pool.1 in
    let none = ap (λ z. z.core.failure) c.self.view_is ∙ c.requires.running in
    let th = there _ _ _ _ _ _ c.self.inside.limit s c.self.inside.table c.self.inside.disk _ c.self.inside.counters p x c.self.invariant at in
    let k : c.from.result * c.self.inside.limit < 2 ^ 64 = subst (λ z. z * c.self.inside.limit < 2 ^ 64) (sym c.from.ensures)
    (place_fits p c.self.inside.limit th.standing.below c.self.invariant.small) in omega arith

pub lend-disk-requires : goal.lend-disk-requires
lend-disk-requires g c =
    let s = c.self.inside.core in let w = c.args.worker in let p = c.args.pid in let x = c.requires.pool.0 in
    let at = ap (λ z. pool_at z.core.pools p) c.self.view_is ∙ c.requires.pool.1 in
    let none = ap (λ z. z.core.failure) c.self.view_is ∙ c.requires.running in
    let d = offload_begin_did s c.step.new.core w p c.args.wanted c.self.invariant.sound none c.in-Ok.ensures.taken.step in
    c.self.invariant.home none ∙ ap is_none d.was.1

pub invariant_of-self-in-Packed : goal.invariant_of-self-in-Packed
invariant_of-self-in-Packed g c =
    let s = c.self.inside.core in let w = c.args.worker in let p = c.args.pid in let x = c.requires.pool.0 in
    let at = ap (λ z. pool_at z.core.pools p) c.self.view_is ∙ c.requires.pool.1 in
    let none = ap (λ z. z.core.failure) c.self.view_is ∙ c.requires.running in
    offload_begin_whole _ _ _ _ _ _ c.self.inside.limit w p c.args.wanted s c.step.new.core c.self.inside.table c.put.new.self c.self.inside.disk
    c.lend-disk.new.home _ c.self.inside.counters c.step.new.counters (lying.Packed c.in-Packed.bytes) c.self.invariant none
    c.in-Ok.ensures.taken c.in-Packed.ensures c.lend-disk.ensures.same c.lend-disk.ensures.out

pub unreachable-requires : goal.unreachable-requires
unreachable-requires g c =
    let s = c.self.inside.core in let w = c.args.worker in let p = c.args.pid in let x = c.requires.pool.0 in
    let at = ap (λ z. pool_at z.core.pools p) c.self.view_is ∙ c.requires.pool.1 in
    let none = ap (λ z. z.core.failure) c.self.view_is ∙ c.requires.running in
    let l = put_lies _ _ _ _ _ _ c.self.inside.limit s c.self.inside.table c.put.new.self c.self.inside.disk _ c.self.inside.counters p x lying.Out c.put.result
    c.self.invariant none at c.put.ensures in
    not_packed g.T.Poolable.encoding c.put.result c.put.ensures.entry.value.value
    (subst (λ z. LiesAs g.T.Poolable.encoding (p * c.self.inside.limit) z c.put.result c.put.ensures.entry.value.value) c.requires.pool.2 l)
    c.in_default-put.not-Packed

pub returns-clause-answer : goal.returns-clause-answer
returns-clause-answer g c =
    let s = c.self.inside.core in let w = c.args.worker in let p = c.args.pid in let x = c.requires.pool.0 in
    let at = ap (λ z. pool_at z.core.pools p) c.self.view_is ∙ c.requires.pool.1 in
    let none = ap (λ z. z.core.failure) c.self.view_is ∙ c.requires.running in
    let t = c.in-Ok.ensures.taken in
    let d = offload_begin_did s c.step.new.core w p c.args.wanted c.self.invariant.sound none t.step in
    let put = c.in-Packed.ensures in
    let th = there _ _ _ _ _ _ c.self.inside.limit s c.self.inside.table c.self.inside.disk _ c.self.inside.counters p x c.self.invariant at in
    let l = put_lies _ _ _ _ _ _ c.self.inside.limit s c.self.inside.table c.put.new.self c.self.inside.disk _ c.self.inside.counters p x lying.Out
    (lying.Packed c.in-Packed.bytes) c.self.invariant none at put in
    let same = subst (λ z. LiesAs g.T.Poolable.encoding (p * c.self.inside.limit) z (lying.Packed c.in-Packed.bytes) put.entry.value.value) c.requires.pool.2 l
    in
    let content = ap (λ z. content_at z p) (sym c.self.view_is) ∙ ap (option_map (λ z. z.value))
    (kept_lookup c.self.inside.table p ∙ ap (option_map kept_of) put.at) in
    let limit = sym c.self.invariant.limit_is ∙ ap (λ z. z.core.limit) c.self.view_is in
    let short = (c.self.invariant.sound.forms_fit p x at).within in
    let long = its_length c.self.inside.table p x.c th.entry put.entry (length c.in-Packed.bytes.items) g.T.Poolable.encoding th.at put.at th.standing.length_is
    (ap length same) in
    let within = place_within p c.self.inside.limit (length c.in-Packed.bytes.items) th.standing.below (let e = c.self.invariant.limit_is in omega arith) in (
      c.requires.wanted,
      (
        c.requires.victim,
        steps_view c.args.self.now _ (event.OffloadBegin w p c.args.wanted) c.step.new.core c.step.new.counters _ _ _ c.self.view_is t put.kept
            c.lend-disk.ensures.same (c.lend-disk.ensures.out ∙ ap is_none (sym d.turned.disk_is)),
        ap (λ z. z * c.self.inside.limit) c.from.ensures ∙ ap (λ z. p * z) limit,
        c.lend-disk.ensures.disk ∙ ap (λ z. z.disk) c.self.view_is,
        subst (λ z. z * c.self.inside.limit + length c.in-Packed.bytes.items ≤ 131072 * c.args.self.now.core.limit) (sym c.from.ensures)
            (subst (λ z. p * c.self.inside.limit + length c.in-Packed.bytes.items ≤ 131072 * z) limit within),
        (put.entry.value.value, content, same),
      ),
    )
