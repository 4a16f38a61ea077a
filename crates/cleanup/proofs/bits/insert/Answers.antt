use Rattle.cleanup.proofs.Words.{inserted_is}
use Rattle.cleanup.proofs.bits.insert.Goals as goal

pub returns : goal.returns
returns c = inserted_is c.args.set.now c.args.x c.requires
