use Rattle.il_run.proofs.Steps.{return_moves, return_receives}
use Rattle.il_run.proofs.machine.Machine.give.Goals as goal

pub receive-requires : goal.receive-requires
receive-requires c = return_receives _ _ c.requires.tabled _ c.requires.sound c.pop.new.self.items _ _ c.pop.new.self c.in-Some.ensures.items c.leave.ensures

pub returns : goal.returns
returns c = return_moves _ _ c.requires.tabled _ c.requires.sound c.requires.returns.register c.args.v _ c.in-Some.waiting c.leave.new.self c.receive.new.self
    c.pop.new.self (c.requires.returns.done, c.requires.returns.end) c.requires.returns.value c.in-Some.ensures.items c.leave.ensures c.receive.ensures
    Rattle.std.proofs.Common.refl
