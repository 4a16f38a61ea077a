use Rattle.std.proofs.Common.{◌≡◌, None, Some, refl, sym, ap, subst, ◌∙◌}
use Rattle.std.specs.Prelude.{option_map}
use Rattle.naim_core.specs.State.{pool_at}
use Rattle.std.specs.Arc.{arc_value}
use Rattle.std.proofs.lemmas.Option.{same_Some}
use Rattle.naim_loader.specs.Forms.{LiesWhole}
use Rattle.naim_loader.specs.Paged.{content_at}
use Rattle.naim_loader.proofs.Wholes.{there}
use Rattle.naim_loader.proofs.Views.{kept_row}
use Rattle.naim_loader.proofs.Events.{lies_shared, not_other, if_ok_more}
use Rattle.naim_loader.proofs.loader.Loader.share.Goals as goal

pub unreachable-requires : goal.unreachable-requires
unreachable-requires g c =
    let at = ap (λ z. pool_at z.core.pools c.args.pid) c.self.view_is ∙ c.requires.pool.1 in
    let t = there _ _ _ _ _ _ c.self.inside.limit c.self.inside.core c.self.inside.table c.self.inside.disk _ c.self.inside.counters c.args.pid
    c.requires.pool.0 c.self.invariant at in
    let k : Some t.entry ≡ None = sym t.at ∙ c.in_default.ensures in cc

pub unreachable-requires-in_default-body : goal.unreachable-requires-in_default-body
unreachable-requires-in_default-body g c =
    let at = ap (λ z. pool_at z.core.pools c.args.pid) c.self.view_is ∙ c.requires.pool.1 in
    let none = ap (λ z. z.core.failure) c.self.view_is ∙ c.requires.running in
    let t = there _ _ _ _ _ _ c.self.inside.limit c.self.inside.core c.self.inside.table c.self.inside.disk _ c.self.inside.counters c.args.pid
    c.requires.pool.0 c.self.invariant at in
    let same = same_Some t.entry c.in-Some.entry.now (sym t.at ∙ c.in-Some.ensures) in
    let whole = lies_shared g.T.Poolable.encoding _ c.requires.pool.0.stage t.entry.body t.entry.value.value c.requires.pool.2 (t.standing.lies none) in
    not_other g.T.Poolable.encoding c.in-Some.entry.now.body c.in-Some.entry.now.value.value
    (subst (λ z. LiesWhole g.T.Poolable.encoding z.body z.value.value) same whole) c.in_default-body.not-Whole

pub returns : goal.returns
returns g c =
    let at = ap (λ z. pool_at z.core.pools c.args.pid) c.self.view_is ∙ c.requires.pool.1 in
    let none = ap (λ z. z.core.failure) c.self.view_is ∙ c.requires.running in
    let t = there _ _ _ _ _ _ c.self.inside.limit c.self.inside.core c.self.inside.table c.self.inside.disk _ c.self.inside.counters c.args.pid
    c.requires.pool.0 c.self.invariant at in
    let same = same_Some t.entry c.in-Some.entry.now (sym t.at ∙ c.in-Some.ensures) in
    let whole = lies_shared g.T.Poolable.encoding _ c.requires.pool.0.stage t.entry.body t.entry.value.value c.requires.pool.2 (t.standing.lies none) in
    let here = subst (λ z. LiesWhole g.T.Poolable.encoding z c.in-Some.entry.now.value.value) c.in-Whole.is
    (subst (λ z. LiesWhole g.T.Poolable.encoding z.body z.value.value) same whole) in
    let kept = ap (option_map (λ k. k.value)) (kept_row c.args.self.now _ c.self.inside.table c.args.pid (Some c.in-Some.entry.now) c.self.view_is refl
    c.in-Some.ensures) in
    if_ok_more (λ a. arc_value a ≡ arc_value c.in-Whole.body) (λ a. content_at c.args.self.now c.args.pid ≡ Some (arc_value a)) c.try_clone.result
    (λ a e. kept ∙ ap (λ z. Some z) (sym (e ∙ here))) c.try_clone.ensures
