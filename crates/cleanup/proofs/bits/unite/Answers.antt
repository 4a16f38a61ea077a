use Rattle.cleanup.proofs.Words.{united_is}
use Rattle.cleanup.proofs.bits.unite.Goals as goal

pub returns : goal.returns
returns c =
    united_is c.args.set.now c.args.others.now c.loop-i.set c.loop-i.i c.loop-i-test.false c.loop-i.auto.set c.requires c.loop-i.invariant.done
