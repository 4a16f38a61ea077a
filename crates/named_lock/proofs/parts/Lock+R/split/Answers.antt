use Rattle.std.proofs.Common.{arith, ap, ◌∙◌}
use Rattle.named_lock.proofs.Cuts.{cuts}
use Rattle.named_lock.proofs.parts.Lock+R.split.Goals as goal

pub split_seat-seat-requires : goal.split_seat-seat-requires
split_seat-seat-requires g c = let p = c.requires.pass in (
  c.tell.ensures.same.0 ∙ p.same,
  omega (arith, c.args.self.now.one),
  cuts g.R.Rule.holds _ _ _ _ _ c.of.result c.of-2.result c.args.mine c.args.other c.args.share (ap (λ z. z.0) c.tell.ensures.seat) c.of.ensures c.of-2.ensures
      p.placed c.requires.some c.requires.less c.requires.rule,
)
