use Rattle.std.proofs.Common.{arith}
use Rattle.named_lock.proofs.Moves.{arrives}
use Rattle.named_lock.proofs.parts.Lock+R.settle.Goals as goal

pub load-requires : goal.load-requires
load-requires g c = (c.requires.same, omega (arith, c.args.self.now.one), arrives g.R.Rule.holds _ _ _ _ _ c.requires.live)
