use Rattle.std.proofs.Common.{◌*◌, arith, length, Some, Err, refl, sym, ap, subst, ◌∙◌}
use Rattle.std.specs.Prelude.{option_map, is_none, if◌then◌else◌}
use Rattle.repository.specs.Record.{HasBytes}
use Rattle.repository.specs.Filing.{record_of}
use Rattle.naim_core.specs.State.{pool_at, is_offloaded}
use Rattle.naim_core.specs.Steps.{step_of}
use Rattle.naim_core.specs.declared.event.Event.TheVariants as event
use Rattle.naim_core.proofs.Effects.{follows_err}
use Rattle.naim_loader.specs.declared.table.Lying.TheVariants as lying
use Rattle.naim_loader.specs.Counting.{Stepped}
use Rattle.naim_loader.specs.Forms.{is_filed}
use Rattle.naim_loader.specs.Home.{told}
use Rattle.naim_loader.specs.Paged.{IsGood}
use Rattle.naim_loader.proofs.Evictions.{place_within}
use Rattle.naim_loader.proofs.Wholes.{stepped, whole_same, there}
use Rattle.naim_loader.proofs.Views.{kept_lookup, same_view}
use Rattle.naim_loader.specs.Rows.{kept_of}
use Rattle.naim_loader.proofs.Reloads.{reload_refused, taken, reload_whole, lies_packed, lies_stored, lies_away, answers_packed, answers_stored}
use Rattle.naim_loader.specs.Calls.{Allows}
use Rattle.naim_loader.proofs.loader.Loader.begin_reload.Goals as goal

pub put-requires : goal.put-requires
put-requires g c =
    let s = c.self.inside.core in let w = c.args.worker in let p = c.args.pid in let m = c.args.mode in let x = c.requires.pool.0 in
    let at = ap (λ z. pool_at z.core.pools p) c.self.view_is ∙ c.requires.pool.1 in
    let none = ap (λ z. z.core.failure) c.self.view_is ∙ c.requires.running in
    let t = there _ _ _ _ _ _ c.self.inside.limit s c.self.inside.table c.self.inside.disk _ c.self.inside.counters p x c.self.invariant at in let e = t.at
    in rw e refl

pub invariant_of-self : goal.invariant_of-self
invariant_of-self g c =
    let s = c.self.inside.core in let k = follows_err (step_of s (event.ReloadBegin c.args.worker c.args.pid c.args.mode)) s c.step.new.core
    c.in_default.field-0 c.in_default.ensures.means in
    whole_same _ _ _ _ _ _ c.self.inside.limit s c.step.new.core c.self.inside.table c.self.inside.disk _ c.self.inside.counters c.step.new.counters
    c.self.invariant k.0 c.in_default.ensures.counted

pub returns-in_default-clause-answer : goal.returns-in_default-clause-answer
returns-in_default-clause-answer g c =
    let s = c.self.inside.core in let w = c.args.worker in let p = c.args.pid in let m = c.args.mode in let x = c.requires.pool.0 in
    let at = ap (λ z. pool_at z.core.pools p) c.self.view_is ∙ c.requires.pool.1 in
    let none = ap (λ z. z.core.failure) c.self.view_is ∙ c.requires.running in
    let k = follows_err (step_of s (event.ReloadBegin w p m)) s c.step.new.core c.in_default.field-0 c.in_default.ensures.means in
    let allowed = subst (λ z. Allows z.core w p m) (sym c.self.view_is) c.requires.allowed in
    let out = reload_refused s w p m x c.in_default.field-0 none at c.requires.pool.2 allowed k.1 in (
      same_view c.args.self.now _ c.step.new.core c.step.new.counters c.self.view_is k.0 c.in_default.ensures.counted,
      ap
          (λ z. step_of z.core (event.ReloadBegin w p m)) (sym c.self.view_is) ∙ k.1 ∙ ap (λ z. Err z) out,
    )

pub invariant_of-self-in-Packed : goal.invariant_of-self-in-Packed
invariant_of-self-in-Packed g c =
    let s = c.self.inside.core in let w = c.args.worker in let p = c.args.pid in let m = c.args.mode in let x = c.requires.pool.0 in
    let at = ap (λ z. pool_at z.core.pools p) c.self.view_is ∙ c.requires.pool.1 in
    let none = ap (λ z. z.core.failure) c.self.view_is ∙ c.requires.running in
    let t : Stepped s (event.ReloadBegin w p m) c.step.new.core c.self.inside.counters c.step.new.counters =
    stepped s (event.ReloadBegin w p m) c.step.new.core c.self.inside.counters c.step.new.counters c.in-Ok.ensures.means c.step.ensures.sound
    c.step.ensures.apart c.step.ensures.limit c.step.ensures.workers c.in-Ok.ensures.counted in
    let k = taken _ _ _ _ _ _ c.self.inside.limit w p m s c.step.new.core x c.self.inside.table c.put.new.self c.self.inside.disk _ c.self.inside.counters
    c.step.new.counters (lying.Packed c.in-Packed.bytes) c.self.invariant none at t c.in-Packed.ensures in
    let both = lies_packed g.T.Poolable.encoding (p * c.self.inside.limit) x.stage c.in-Packed.bytes k.0.value c.requires.pool.2 k.0.lies in
    let home = c.self.invariant.home none ∙ ap (λ o. is_none (if is_offloaded o then Some w else s.disk)) (sym both.0) ∙ sym (ap is_none k.0.disk_is) in
    reload_whole _ _ _ _ _ _ c.self.inside.limit w p m s c.step.new.core x c.self.inside.table c.put.new.self c.self.inside.disk c.self.inside.disk _
    c.self.inside.counters c.step.new.counters (lying.Packed c.in-Packed.bytes) c.self.invariant none at t c.in-Packed.ensures refl home

pub lend-disk-requires : goal.lend-disk-requires
lend-disk-requires g c =
    let s = c.self.inside.core in let w = c.args.worker in let p = c.args.pid in let m = c.args.mode in let x = c.requires.pool.0 in
    let at = ap (λ z. pool_at z.core.pools p) c.self.view_is ∙ c.requires.pool.1 in
    let none = ap (λ z. z.core.failure) c.self.view_is ∙ c.requires.running in
    let t : Stepped s (event.ReloadBegin w p m) c.step.new.core c.self.inside.counters c.step.new.counters =
    stepped s (event.ReloadBegin w p m) c.step.new.core c.self.inside.counters c.step.new.counters c.in-Ok.ensures.means c.step.ensures.sound
    c.step.ensures.apart c.step.ensures.limit c.step.ensures.workers c.in-Ok.ensures.counted in
    let k = taken _ _ _ _ _ _ c.self.inside.limit w p m s c.step.new.core x c.self.inside.table c.put.new.self c.self.inside.disk _ c.self.inside.counters
    c.step.new.counters (lying.Stored c.in-Stored.filed) c.self.invariant none at t c.in-Stored.ensures in
    let both = lies_stored g.T.Poolable.encoding (p * c.self.inside.limit) x.stage c.in-Stored.filed k.0.value c.requires.pool.2 k.0.lies in
    c.self.invariant.home none ∙ k.0.home both.0

pub invariant_of-self-in-Stored : goal.invariant_of-self-in-Stored
invariant_of-self-in-Stored g c =
    let s = c.self.inside.core in let w = c.args.worker in let p = c.args.pid in let m = c.args.mode in let x = c.requires.pool.0 in
    let at = ap (λ z. pool_at z.core.pools p) c.self.view_is ∙ c.requires.pool.1 in
    let none = ap (λ z. z.core.failure) c.self.view_is ∙ c.requires.running in
    let t : Stepped s (event.ReloadBegin w p m) c.step.new.core c.self.inside.counters c.step.new.counters =
    stepped s (event.ReloadBegin w p m) c.step.new.core c.self.inside.counters c.step.new.counters c.in-Ok.ensures.means c.step.ensures.sound
    c.step.ensures.apart c.step.ensures.limit c.step.ensures.workers c.in-Ok.ensures.counted in
    let k = taken _ _ _ _ _ _ c.self.inside.limit w p m s c.step.new.core x c.self.inside.table c.put.new.self c.self.inside.disk _ c.self.inside.counters
    c.step.new.counters (lying.Stored c.in-Stored.filed) c.self.invariant none at t c.in-Stored.ensures in
    let both = lies_stored g.T.Poolable.encoding (p * c.self.inside.limit) x.stage c.in-Stored.filed k.0.value c.requires.pool.2 k.0.lies in
    let home = c.lend-disk.ensures.out ∙ ap (λ o. is_none (if is_offloaded o then Some w else s.disk)) (sym both.0) ∙ sym (ap is_none k.0.disk_is) in
    reload_whole _ _ _ _ _ _ c.self.inside.limit w p m s c.step.new.core x c.self.inside.table c.put.new.self c.self.inside.disk c.lend-disk.new.home _
    c.self.inside.counters c.step.new.counters (lying.Stored c.in-Stored.filed) c.self.invariant none at t c.in-Stored.ensures c.lend-disk.ensures.same home

pub unreachable-requires : goal.unreachable-requires
unreachable-requires g c =
    let s = c.self.inside.core in let w = c.args.worker in let p = c.args.pid in let m = c.args.mode in let x = c.requires.pool.0 in
    let at = ap (λ z. pool_at z.core.pools p) c.self.view_is ∙ c.requires.pool.1 in
    let none = ap (λ z. z.core.failure) c.self.view_is ∙ c.requires.running in
    let t : Stepped s (event.ReloadBegin w p m) c.step.new.core c.self.inside.counters c.step.new.counters =
    stepped s (event.ReloadBegin w p m) c.step.new.core c.self.inside.counters c.step.new.counters c.in-Ok.ensures.means c.step.ensures.sound
    c.step.ensures.apart c.step.ensures.limit c.step.ensures.workers c.in-Ok.ensures.counted in
    let k = taken _ _ _ _ _ _ c.self.inside.limit w p m s c.step.new.core x c.self.inside.table c.put.new.self c.self.inside.disk _ c.self.inside.counters
    c.step.new.counters c.put.result c.self.invariant none at t c.put.ensures in
    lies_away g.T.Poolable.encoding (p * c.self.inside.limit) x.stage c.put.result k.0.value c.requires.pool.2 k.0.lies c.in_default-put.not-Packed
    c.in_default-put.not-Stored

pub returns-in-Packed-clause-answer : goal.returns-in-Packed-clause-answer
returns-in-Packed-clause-answer g c =
    let s = c.self.inside.core in let w = c.args.worker in let p = c.args.pid in let m = c.args.mode in let x = c.requires.pool.0 in
    let at = ap (λ z. pool_at z.core.pools p) c.self.view_is ∙ c.requires.pool.1 in
    let none = ap (λ z. z.core.failure) c.self.view_is ∙ c.requires.running in
    let t : Stepped s (event.ReloadBegin w p m) c.step.new.core c.self.inside.counters c.step.new.counters =
    stepped s (event.ReloadBegin w p m) c.step.new.core c.self.inside.counters c.step.new.counters c.in-Ok.ensures.means c.step.ensures.sound
    c.step.ensures.apart c.step.ensures.limit c.step.ensures.workers c.in-Ok.ensures.counted in
    let k = taken _ _ _ _ _ _ c.self.inside.limit w p m s c.step.new.core x c.self.inside.table c.put.new.self c.self.inside.disk _ c.self.inside.counters
    c.step.new.counters (lying.Packed c.in-Packed.bytes) c.self.invariant none at t c.in-Packed.ensures in
    let both = lies_packed g.T.Poolable.encoding (p * c.self.inside.limit) x.stage c.in-Packed.bytes k.0.value c.requires.pool.2 k.0.lies in
    let home = c.self.invariant.home none ∙ ap (λ o. is_none (if is_offloaded o then Some w else s.disk)) (sym both.0) ∙ sym (ap is_none k.0.disk_is) in
    let content = ap (option_map (λ z. z.value)) (kept_lookup c.self.inside.table p ∙ ap (option_map kept_of) c.in-Packed.ensures.at) ∙ ap (λ z. Some z)
    (sym k.1) in
    answers_packed g.T.Poolable.charge_of g.T.Poolable.encoding g.D.Disk.bytes g.D.Disk.reach g.D.Disk.honest c.args.self.now _ w p m c.in-Packed.bytes
    k.0.value c.step.new.core c.step.new.counters _ _ _ c.self.view_is t c.in-Packed.ensures.kept refl home
    (ap (option_map (λ z. z.stage)) at ∙ ap (λ z. Some z) both.0) content both.1

pub returns-in-Stored-clause-answer : goal.returns-in-Stored-clause-answer
returns-in-Stored-clause-answer g c =
    let s = c.self.inside.core in let w = c.args.worker in let p = c.args.pid in let m = c.args.mode in let x = c.requires.pool.0 in
    let at = ap (λ z. pool_at z.core.pools p) c.self.view_is ∙ c.requires.pool.1 in
    let none = ap (λ z. z.core.failure) c.self.view_is ∙ c.requires.running in
    let t : Stepped s (event.ReloadBegin w p m) c.step.new.core c.self.inside.counters c.step.new.counters =
    stepped s (event.ReloadBegin w p m) c.step.new.core c.self.inside.counters c.step.new.counters c.in-Ok.ensures.means c.step.ensures.sound
    c.step.ensures.apart c.step.ensures.limit c.step.ensures.workers c.in-Ok.ensures.counted in
    let k = taken _ _ _ _ _ _ c.self.inside.limit w p m s c.step.new.core x c.self.inside.table c.put.new.self c.self.inside.disk _ c.self.inside.counters
    c.step.new.counters (lying.Stored c.in-Stored.filed) c.self.invariant none at t c.in-Stored.ensures in
    let both = lies_stored g.T.Poolable.encoding (p * c.self.inside.limit) x.stage c.in-Stored.filed k.0.value c.requires.pool.2 k.0.lies in
    let home = c.lend-disk.ensures.out ∙ ap (λ o. is_none (if is_offloaded o then Some w else s.disk)) (sym both.0) ∙ sym (ap is_none k.0.disk_is) in
    let content = ap (option_map (λ z. z.value)) (kept_lookup c.self.inside.table p ∙ ap (option_map kept_of) c.in-Stored.ensures.at) ∙ ap (λ z. Some z)
    (sym k.1) in
    let l = c.self.invariant.limit_is in
    answers_stored g.T.Poolable.charge_of g.T.Poolable.encoding g.D.Disk.bytes g.D.Disk.reach g.D.Disk.honest c.args.self.now _ w p m c.in-Stored.filed
    c.args.charge c.lend-disk.result k.0.value c.step.new.core c.step.new.counters _ _ _ c.self.view_is t
    c.in-Stored.ensures.kept c.lend-disk.ensures.same home (ap (option_map (λ z. z.stage)) at ∙ ap (λ z. Some z) both.0) content
    (both.1 ∙ ap (λ z. record_of (p * z) (g.T.Poolable.encoding k.0.value)) (sym l)) (c.requires.pool.3 ∙ k.0.charge_is) c.lend-disk.ensures.disk
    (place_within p s.limit (length (g.T.Poolable.encoding k.0.value)) k.0.below
    (let short = (c.self.invariant.sound.forms_fit p x at).within in let long = k.0.length_is in omega arith))
    (λ good. subst (λ z. HasBytes (g.D.Disk.bytes z) (p * s.limit) (g.T.Poolable.encoding k.0.value)) (sym c.lend-disk.ensures.disk)
    (subst (λ z. HasBytes (g.D.Disk.bytes (told c.self.inside.disk)) (p * z) (g.T.Poolable.encoding k.0.value)) (sym l)
    (k.0.filed (subst (λ z. IsGood g.D.Disk.reach g.D.Disk.honest z c.self.inside.first.value) l good) (ap is_filed both.0))))
