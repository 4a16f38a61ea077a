use Rattle.std.proofs.Common.{arith}
use Rattle.lock_join.proofs.Turns.{worked_not, ready_again}
use Rattle.lock_join.proofs.workers.work.Goals as goal

pub loop-init : goal.loop-init
loop-init g c = record { below = omega arith; worked = worked_not _ _ _ c.requires.ready; amount = omega arith }

pub work_once-note-requires-clause-ready : goal.work_once-note-requires-clause-ready
work_once-note-requires-clause-ready g c = ready_again _ _ _ _ _ c.requires.ready c.loop.invariant.worked
