use Rattle.c_module.proofs.Assembled.{present_none, present_some}
use Rattle.c_module.proofs.assembling.present.Goals as goal

pub loop-slot-preserved-in-Continue-1 : goal.loop-slot-preserved-in-Continue-1
loop-slot-preserved-in-Continue-1 c =
    present_some c.loop-slot.yielded c.in-Some.slot c.in-Some-slot.routine c.loop-slot.routines.items c.push.new.self.items c.loop-slot.invariant
    c.in_ok-push.ensures.items c.in-Some-slot.is

pub loop-slot-preserved : goal.loop-slot-preserved
loop-slot-preserved c = present_none c.loop-slot.yielded c.in-Some.slot c.loop-slot.routines.items c.loop-slot.invariant c.in_default.is
