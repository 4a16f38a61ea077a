use Rattle.std.proofs.Common.{arith}
use Rattle.named_lock.proofs.Moves.{puts_home}
use Rattle.named_lock.proofs.making.Lock+R.bring_home.Goals as goal

pub fetch_add-requires : goal.fetch_add-requires
fetch_add-requires g c = (
  c.requires.same,
  omega (arith, c.args.self.now.one),
  puts_home g.R.Rule.holds _ _ _ _ _ c.requires.turn.0 c.requires.slot
      c.requires.turn.1,
)
