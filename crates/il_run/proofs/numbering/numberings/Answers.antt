use Rattle.il_run.proofs.Numbers.{routine_more}
use Rattle.il_run.proofs.numbering.numberings.Goals as goal

pub loop-routine-preserved : goal.loop-routine-preserved
loop-routine-preserved c = routine_more c.args.routines.now c.loop-routine.routine-index c.routine-item.result c.loop-routine.all.items c.push.new.self.items
    c.in_ok-new.field-0 c.loop-routine-test.true c.routine-item.is c.loop-routine.invariant c.in_ok-push.ensures.items c.in_ok-new.ensures
