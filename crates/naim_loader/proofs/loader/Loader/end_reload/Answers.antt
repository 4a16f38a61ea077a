use Rattle.std.proofs.Common.{◌≡◌, ◌*◌, Some, refl, ap, sym, subst, ◌∙◌}
use Rattle.std.specs.Prelude.{is_some, option_map, unwrap_or}
use Rattle.repository.specs.Record.{HasBytes}
use Rattle.naim_core.specs.Rows.{pinned_for}
use Rattle.naim_core.specs.declared.event.Event.TheVariants as event
use Rattle.naim_core.specs.declared.pool.Stage.TheVariants as stage
use Rattle.naim_core.proofs.Effects.{reload_end_did}
use Rattle.std.proofs.lemmas.Option.{same_Some}
use Rattle.naim_loader.specs.Forms.{LiesAs, is_filed}
use Rattle.naim_loader.specs.Home.{told}
use Rattle.naim_loader.specs.Moves.{Brings, IsMoving}
use Rattle.naim_loader.specs.Paged.{content_at, IsGood}
use Rattle.naim_loader.specs.Rows.{kept_of}
use Rattle.naim_loader.proofs.Ends.{its_standing, reload_end_taken, reload_end_whole, reload_lent, reload_numbers, reload_same}
use Rattle.naim_loader.proofs.Homes.{was_out}
use Rattle.naim_loader.proofs.Wholes.{there}
use Rattle.naim_loader.proofs.Views.{changes_view, keeps_row, kept_lookup, kept_row}
use Rattle.naim_loader.proofs.loader.Loader.end_reload.Goals as goal

pub unreachable-requires : goal.unreachable-requires
unreachable-requires g c =
    let s = c.self.inside.core in let w = c.args.worker in let p = c.args.pid in let m = c.requires.moving.0 in let o = c.args.disk in
    let none = ap (λ z. z.core.failure) c.self.view_is ∙ c.requires.running in
    let moving = subst (λ z. IsMoving z.core w p (λ st. st ≡ stage.Reloading m (is_some o))) (sym c.self.view_is) c.requires.moving.1 in
    reload_end_taken s w p m (is_some o) c.in_default.field-0 none moving c.in_default.ensures.refused.step

pub reset-requires : goal.reset-requires
reset-requires g c =
    let s = c.self.inside.core in let w = c.args.worker in let p = c.args.pid in let m = c.requires.moving.0 in let o = c.args.disk in
    let none = ap (λ z. z.core.failure) c.self.view_is ∙ c.requires.running in
    let moving = subst (λ z. IsMoving z.core w p (λ st. st ≡ stage.Reloading m (is_some o))) (sym c.self.view_is) c.requires.moving.1 in
    let t = there _ _ _ _ _ _ c.self.inside.limit s c.self.inside.table c.self.inside.disk _ c.self.inside.counters p moving.pool c.self.invariant moving.at
    in let e = t.at in rw e refl

pub bring_if-requires : goal.bring_if-requires
bring_if-requires g c = was_out g.D.Disk.reach g.D.Disk.honest c.args.self.now _ c.args.disk c.self.view_is c.requires.disk

pub invariant_of-self : goal.invariant_of-self
invariant_of-self g c =
    let s = c.self.inside.core in let w = c.args.worker in let p = c.args.pid in let m = c.requires.moving.0 in let o = c.args.disk in
    let none = ap (λ z. z.core.failure) c.self.view_is ∙ c.requires.running in
    let moving = subst (λ z. IsMoving z.core w p (λ st. st ≡ stage.Reloading m (is_some o))) (sym c.self.view_is) c.requires.moving.1 in
    let put = c.reset.ensures in let r = c.args.value.value in let k = c.requires.was.0 in
    let content = ap (option_map (λ z. z.value)) (kept_lookup c.self.inside.table p ∙ ap (option_map kept_of) put.at) in
    let same = same_Some _ _ (sym c.requires.was.1 ∙ ap (λ z. content_at z p) (sym c.self.view_is) ∙ content) in
    let brings = subst (Brings g.T.Poolable.charge_of g.T.Poolable.encoding g.D.Disk.bytes g.D.Disk.reach g.D.Disk.honest c.args.self.now p o r) same
    c.requires.was.2 in
    let st = its_standing _ _ _ _ _ _ c.self.inside.limit s c.self.inside.table c.self.inside.disk _ c.self.inside.counters p moving.pool put.entry
    c.self.invariant moving.at put.at in
    let numbers = reload_numbers g.T.Poolable.charge_of g.T.Poolable.encoding g.D.Disk.bytes g.D.Disk.reach g.D.Disk.honest g.T.Poolable.is_value
    c.args.self.now p o r put.entry.value.value g.met.T.Poolable.tells_apart c.requires.value st.value brings in
    reload_end_whole _ _ _ _ _ _ c.self.inside.limit w p s c.step.new.core moving.pool m (is_some o) c.args.body c.args.value c.self.inside.table
    c.reset.new.self c.self.inside.disk c.bring_if.new.home _ c.self.inside.counters c.step.new.counters c.self.invariant none
    moving.at moving.stage c.in-Ok.ensures.taken put c.requires.value numbers.0 numbers.1
    (subst (λ n. LiesAs g.T.Poolable.encoding (p * n) (pinned_for m) c.args.body r) (ap (λ z. z.core.limit) (sym c.self.view_is) ∙ c.self.invariant.limit_is)
    c.requires.moving.2) c.bring_if.ensures.home
    (reload_lent g.T.Poolable.charge_of g.T.Poolable.encoding g.D.Disk.bytes g.D.Disk.reach g.D.Disk.honest c.args.self.now _ c.self.inside.limit p o _ r
    put.entry.value.value c.self.view_is c.self.invariant.limit_is c.requires.disk brings c.self.invariant.good c.bring_if.ensures.disk)

pub returns-clause-reloads : goal.returns-clause-reloads
returns-clause-reloads g c =
    let s = c.self.inside.core in let w = c.args.worker in let p = c.args.pid in let m = c.requires.moving.0 in let o = c.args.disk in
    let none = ap (λ z. z.core.failure) c.self.view_is ∙ c.requires.running in
    let moving = subst (λ z. IsMoving z.core w p (λ st. st ≡ stage.Reloading m (is_some o))) (sym c.self.view_is) c.requires.moving.1 in
    let put = c.reset.ensures in let r = c.args.value.value in let k = c.requires.was.0 in
    let content = ap (option_map (λ z. z.value)) (kept_lookup c.self.inside.table p ∙ ap (option_map kept_of) put.at) in
    let same = same_Some _ _ (sym c.requires.was.1 ∙ ap (λ z. content_at z p) (sym c.self.view_is) ∙ content) in
    let brings = subst (Brings g.T.Poolable.charge_of g.T.Poolable.encoding g.D.Disk.bytes g.D.Disk.reach g.D.Disk.honest c.args.self.now p o r) same
    c.requires.was.2 in
    let st = its_standing _ _ _ _ _ _ c.self.inside.limit s c.self.inside.table c.self.inside.disk _ c.self.inside.counters p moving.pool put.entry
    c.self.invariant moving.at put.at in
    let numbers = reload_numbers g.T.Poolable.charge_of g.T.Poolable.encoding g.D.Disk.bytes g.D.Disk.reach g.D.Disk.honest g.T.Poolable.is_value
    c.args.self.now p o r put.entry.value.value g.met.T.Poolable.tells_apart c.requires.value st.value brings in
    let whole = reload_end_whole _ _ _ _ _ _ c.self.inside.limit w p s c.step.new.core moving.pool m (is_some o) c.args.body c.args.value c.self.inside.table
    c.reset.new.self c.self.inside.disk c.bring_if.new.home _ c.self.inside.counters c.step.new.counters c.self.invariant none
    moving.at moving.stage c.in-Ok.ensures.taken put c.requires.value numbers.0 numbers.1
    (subst (λ n. LiesAs g.T.Poolable.encoding (p * n) (pinned_for m) c.args.body r) (ap (λ z. z.core.limit) (sym c.self.view_is) ∙ c.self.invariant.limit_is)
    c.requires.moving.2) c.bring_if.ensures.home
    (reload_lent g.T.Poolable.charge_of g.T.Poolable.encoding g.D.Disk.bytes g.D.Disk.reach g.D.Disk.honest c.args.self.now _ c.self.inside.limit p o _ r
    put.entry.value.value c.self.view_is c.self.invariant.limit_is c.requires.disk brings c.self.invariant.good c.bring_if.ensures.disk) in
    let d = reload_end_did s c.step.new.core w p c.self.invariant.sound none c.in-Ok.ensures.taken.step in
    let trusted = λ (good : IsGood g.D.Disk.reach g.D.Disk.honest c.args.self.now.core.limit c.args.self.now.first). subst
    (λ n. IsGood g.D.Disk.reach g.D.Disk.honest n c.self.inside.first.value) c.self.invariant.limit_is
    (subst (λ z. IsGood g.D.Disk.reach g.D.Disk.honest z.core.limit z.first) (sym c.self.view_is) good) in
    record {
      was = kept_of put.entry;
      there = kept_row c.args.self.now _ c.self.inside.table p (Some put.entry) c.self.view_is refl put.at;
      event = changes_view c.args.self.now _ (event.ReloadEnd w p) c.step.new.core c.step.new.counters _ _ _ c.self.view_is c.in-Ok.ensures.taken
          (whole.home (d.turned.failure_is ∙ none));
      disk_is = c.bring_if.ensures.disk ∙ ap (λ z. unwrap_or o z.disk) c.self.view_is;
      kept = λ q. keeps_row c.args.self.now _ c.self.inside.table c.reset.new.self p _ c.self.view_is refl put.renews q;
      charge_same = numbers.0;
      length_same = numbers.1;
      same = reload_same g.T.Poolable.charge_of g.T.Poolable.encoding g.D.Disk.bytes g.D.Disk.reach g.D.Disk.honest g.T.Poolable.is_value c.args.self.now p o r
          put.entry.value.value g.met.T.Poolable.tells_apart c.requires.value st.value brings
          (λ some good. subst (λ z. HasBytes (g.D.Disk.bytes z.disk) (p * z.core.limit) (g.T.Poolable.encoding put.entry.value.value)) c.self.view_is
          (subst (λ n. HasBytes (g.D.Disk.bytes (told c.self.inside.disk)) (p * n) (g.T.Poolable.encoding put.entry.value.value))
          (sym c.self.invariant.limit_is) (st.filed none (trusted good) (ap is_filed moving.stage ∙ some))));
    }
