use Rattle.std.proofs.Common.{◌≡◌, ◌*◌, length, refl, ap, sym, subst, ◌∙◌}
use Rattle.std.specs.Prelude.{is_none, option_map}
use Rattle.outside.specs.Places.{Overwrites}
use Rattle.naim_core.specs.declared.event.Event.TheVariants as event
use Rattle.naim_core.specs.declared.pool.Stage.TheVariants as stage
use Rattle.naim_core.proofs.Effects.{offload_end_did}
use Rattle.repository.specs.Filing.{record_of}
use Rattle.std.proofs.lemmas.Option.{same_Some}
use Rattle.naim_loader.specs.Moves.{IsMoving}
use Rattle.naim_loader.specs.Paged.{content_at, IsGood, IsTrusted}
use Rattle.naim_loader.specs.Rows.{kept_of}
use Rattle.naim_loader.proofs.Ends.{offload_end_at, offload_end_taken}
use Rattle.naim_loader.proofs.Wholes.{there}
use Rattle.naim_loader.proofs.Views.{changes_view, kept_lookup}
use Rattle.naim_loader.proofs.loader.Loader.end_offload.Goals as goal

pub unreachable-requires : goal.unreachable-requires
unreachable-requires g c =
    let s = c.self.inside.core in let w = c.args.worker in let p = c.args.pid in
    let none = ap (λ z. z.core.failure) c.self.view_is ∙ c.requires.running in
    let moving = subst (λ z. IsMoving z.core w p (λ st. st ≡ stage.Offloading)) (sym c.self.view_is) c.requires.moving in
    offload_end_taken s w p c.in_default.field-0 none moving c.in_default.ensures.refused.step

pub put-requires : goal.put-requires
put-requires g c =
    let s = c.self.inside.core in let w = c.args.worker in let p = c.args.pid in
    let none = ap (λ z. z.core.failure) c.self.view_is ∙ c.requires.running in
    let moving = subst (λ z. IsMoving z.core w p (λ st. st ≡ stage.Offloading)) (sym c.self.view_is) c.requires.moving in
    let t = there _ _ _ _ _ _ c.self.inside.limit s c.self.inside.table c.self.inside.disk _ c.self.inside.counters p moving.pool c.self.invariant moving.at
    in let e = t.at in rw e refl

pub bring-requires : goal.bring-requires
bring-requires g c = ap (λ z. z.home) c.self.view_is ∙ c.requires.disk.0

pub invariant_of-self : goal.invariant_of-self
invariant_of-self g c =
    let s = c.self.inside.core in let w = c.args.worker in let p = c.args.pid in
    let none = ap (λ z. z.core.failure) c.self.view_is ∙ c.requires.running in
    let moving = subst (λ z. IsMoving z.core w p (λ st. st ≡ stage.Offloading)) (sym c.self.view_is) c.requires.moving in
    let k = c.requires.filed.0 in
    let content = ap (option_map (λ z. z.value)) (kept_lookup c.self.inside.table p ∙ ap (option_map kept_of) c.put.ensures.at) in
    let same = same_Some _ _ (sym c.requires.filed.1 ∙ ap (λ z. content_at z p) (sym c.self.view_is) ∙ content) in
    let filed = c.requires.filed.2 ∙ ap (λ z. record_of (p * z.core.limit) (g.T.Poolable.encoding k)) (sym c.self.view_is) in
    let over = subst (λ z. IsTrusted g.D.Disk.reach g.D.Disk.honest z
    → Overwrites (g.D.Disk.bytes z.disk) (g.D.Disk.bytes c.args.disk) (p * z.core.limit) (length (g.T.Poolable.encoding k)) (g.T.Poolable.encoding k))
    (sym c.self.view_is) c.requires.filed.3 in
    let good = subst (λ z. IsTrusted g.D.Disk.reach g.D.Disk.honest z → IsGood g.D.Disk.reach g.D.Disk.honest z.core.limit c.args.disk) (sym c.self.view_is)
    c.requires.disk.1 in
    offload_end_at _ _ _ _ _ _ c.self.inside.limit w p s c.step.new.core c.args.filed c.put.result c.args.disk k c.self.inside.table c.put.new.self
    c.self.inside.disk c.bring.new.home _ c.self.inside.counters c.step.new.counters c.self.invariant none c.in-Ok.ensures.taken c.put.ensures
    same filed c.bring.ensures.disk c.bring.ensures.home over good

pub returns-clause-offloads : goal.returns-clause-offloads
returns-clause-offloads g c =
    let s = c.self.inside.core in let w = c.args.worker in let p = c.args.pid in
    let none = ap (λ z. z.core.failure) c.self.view_is ∙ c.requires.running in
    let moving = subst (λ z. IsMoving z.core w p (λ st. st ≡ stage.Offloading)) (sym c.self.view_is) c.requires.moving in
    let t = c.in-Ok.ensures.taken in
    let d = offload_end_did s c.step.new.core w p c.self.invariant.sound none t.step in
    record {
      event = changes_view c.args.self.now _ (event.OffloadEnd w p) c.step.new.core c.step.new.counters _ _ _ c.self.view_is t
          (c.bring.ensures.home ∙ ap is_none (sym d.turned.disk_is));
      disk_is = c.bring.ensures.disk;
      kept_same = c.put.ensures.kept ∙ ap (λ z. z.kept) c.self.view_is;
    }
