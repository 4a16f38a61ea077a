use Rattle.std.proofs.Common.{arith, ap, ◌∙◌}
use Rattle.named_lock.proofs.Views.{out-idle}
use Rattle.named_lock.proofs.Cuts.{joins}
use Rattle.named_lock.proofs.parts.Lock+R.end.Goals as goal

pub join_seat-requires : goal.join_seat-requires
join_seat-requires g c = let p = c.requires.pass in let q = c.requires.other in (
  c.tell.ensures.same.0 ∙ p.same,
  q.same,
  q.slots ∙ out-idle _ c.requires.idle,
  omega (arith, c.args.self.now.one),
  joins g.R.Rule.holds _ _ _ _ _ _ _ c.of.result c.args.note (ap (λ z. z.0) c.tell.ensures.seat) c.of.ensures p.placed q.placed c.requires.rule,
)
