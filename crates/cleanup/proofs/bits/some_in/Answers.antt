use Rattle.std.proofs.Common.{◌∙◌, sym}
use Rattle.cleanup.specs.Bits.{has}
use Rattle.cleanup.proofs.Words.{some_more}
use Rattle.cleanup.proofs.bits.some_in.Goals as goal

pub loop-i-preserved : goal.loop-i-preserved
loop-i-preserved c =
    c.loop-i.invariant ∙ some_more (has c.args.set.now) c.args.first c.args.count c.loop-i.i c.loop-i-test.true (sym c.is_in.ensures ∙ c.if-is_in.false)
