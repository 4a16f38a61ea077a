use Rattle.cleanup.proofs.Words.{removed_is}
use Rattle.cleanup.proofs.bits.remove.Goals as goal

pub returns : goal.returns
returns c = removed_is c.args.set.now c.args.x c.requires
