use Rattle.std.proofs.Common.{◌∙◌, sym}
use Rattle.cleanup.proofs.Thinning.{keep_more, drop_more_dead}
use Rattle.cleanup.proofs.live.keep_alive.Goals as goal

pub loop-instr-preserved-in-Continue-1 : goal.loop-instr-preserved-in-Continue-1
loop-instr-preserved-in-Continue-1 c =
    keep_more _ _ _ _ _ _ _ _ _ c.in-Some.ensures.items c.loop-instr.invariant c.step_back.ensures.live _ c.in_ok-push.ensures.items
    (sym c.step_back.ensures.kept ∙ c.if-step_back.true)

pub loop-instr-preserved : goal.loop-instr-preserved
loop-instr-preserved c =
    drop_more_dead _ _ _ _ _ _ _ _ _ c.in-Some.ensures.items c.loop-instr.invariant c.step_back.ensures.live
    (sym c.step_back.ensures.kept ∙ c.if-step_back.false)
