use Rattle.std.proofs.Common.{ap, ◌∙◌, sym}
use mathlib.Core.Option as base
use Rattle.named_lock.proofs.Views.{out-taken}
use Rattle.named_lock.proofs.Ends.{closed}
use Rattle.named_lock.proofs.making.Lock+R.finish.Goals as goal

pub bring_home-requires-clause-slot : goal.bring_home-requires-clause-slot
bring_home-requires-clause-slot g c = c.requires.pass.slots ∙ out-taken _ _ c.requires.turn

pub discard-requires : goal.discard-requires
discard-requires g c =
    let e = closed g.R.Rule.holds _ _ _ _ c.args.p.seat.me.0 c.args.t.taken.value _ _ (ap (λ z. z.0) c.bring_home.ensures.seat) c.requires.pass.placed
    c.requires.turn c.requires.all c.close_with-closed.ensures.values.2 in
    ap (λ h. h.state) (base.some-injective _ _ (sym c.take.ensures.value ∙ e.0))

pub returns-clause-rule : goal.returns-clause-rule
returns-clause-rule g c =
    (closed g.R.Rule.holds _ _ _ _ c.args.p.seat.me.0 c.args.t.taken.value _ _ (ap (λ z. z.0) c.bring_home.ensures.seat) c.requires.pass.placed c.requires.turn
    c.requires.all c.close_with-closed.ensures.values.2).1
