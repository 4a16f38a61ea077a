use Rattle.il_run.proofs.Leading.{leads_first, leads_more, moved_on}
use Rattle.il_run.proofs.machine.Machine.advance.Goals as goal

pub running-init : goal.running-init
running-init c = leads_first _ _ _ c.requires.sound

pub running-preserved : goal.running-preserved
running-preserved c = leads_more _ _ _ _ _ c.running.invariant (rw c.in_default.is at c.in_ok-asked.ensures)

pub running-smaller : goal.running-smaller
running-smaller c = let step = rw c.in_default.is at c.in_ok-asked.ensures in step.less

pub returns-in-Some : goal.returns-in-Some
returns-in-Some c = moved_on _ _ _ _ _ _ c.running.invariant (rw c.in-Some.is at c.in_ok-asked.ensures)
