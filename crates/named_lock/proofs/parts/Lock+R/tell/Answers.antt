use Rattle.std.proofs.Common.{arith, refl}
use Rattle.named_lock.proofs.Moves.{tells}
use Rattle.named_lock.proofs.parts.Lock+R.tell.Goals as goal

pub compare_exchange_with-requires : goal.compare_exchange_with-requires
compare_exchange_with-requires g c = (c.requires.same, omega (arith, c.args.self.now.one), tells g.R.Rule.holds _ _ _ _ _ _ c.requires.live)

pub returns-clause-seat : goal.returns-clause-seat
returns-clause-seat g c = c.compare_exchange_with.ensures.2 _ refl
