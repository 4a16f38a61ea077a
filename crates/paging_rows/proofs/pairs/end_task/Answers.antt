use Rattle.std.proofs.Common.{ap, length, subst, sym, Some, ◌+◌, ◌≡◌, ◌≤◌, ◌∙◌}
use Rattle.std.specs.Arc.{arc_value}
use Rattle.naim_core.specs.Rows.{stated_room}
use Rattle.naim_core.specs.State.{hand_at, is_written, pool_at}
use Rattle.naim_loader.specs.Calls.{Writes}
use Rattle.naim_loader.specs.declared.forms.Draft.TheVariants as draft
use Rattle.paging_rows.proofs.Waves.{wave_written}
use Rattle.paging_rows.proofs.pairs.end_task.Goals as goal

pub unpin_write-requires-clause-held : goal.unpin_write-requires-clause-held
unpin_write-requires-clause-held g c = ap (λ z. (hand_at z 0).written) c.requires.wave.hands ∙ ap (λ z. Some z) (sym c.requires.pid)

pub unpin_write-requires-clause-pool : goal.unpin_write-requires-clause-pool
unpin_write-requires-clause-pool g c =
    let h = c.requires.pool in
    let fits = subst (λ st. g.T.Poolable.charge_of (arc_value c.args.body) + length (g.T.Poolable.encoding (arc_value c.args.body)) ≤ stated_room st) (sym h.2)
    c.requires.fits in
    (h.0, subst (λ q. pool_at c.args.pools.now.core.pools q ≡ Some h.0) (sym c.requires.pid) h.1, ap is_written h.2, fits)

pub returns-in-Ok-Done : goal.returns-in-Ok-Done
returns-in-Ok-Done g c =
    let a = rw c.in-Ok-Done.field-0-is at c.in-Ok-Done.ensures.answer in
    let t = subst (λ q. Writes g.T.Poolable.charge_of g.T.Poolable.encoding c.args.pools.now c.unpin_write.new.self 0 q (draft.Whole c.args.body) c.args.brief)
    c.requires.pid a in
    wave_written g.T.Poolable.charge_of g.T.Poolable.encoding c.args.pools.now c.unpin_write.new.self c.args.pid (draft.Whole c.args.body) c.args.brief
    c.unpin_write.ensures.sound c.requires.wave t
