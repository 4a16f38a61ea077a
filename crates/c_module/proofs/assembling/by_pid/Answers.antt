use Rattle.std.proofs.Common.{arith, ap}
use Rattle.il_core.specs.Routine.{RoutineParts}
use Rattle.c_module.proofs.Assembled.{fill_within}
use Rattle.c_module.proofs.assembling.by_pid.Goals as goal

pub index_mut-requires : goal.index_mut-requires
index_mut-requires c =
    let within = fill_within c.args.names c.args.routines.items c.loop-routine.left.items c.pop.new.self.items c.in-Some.routine c.loop-routine.table.items
    c.loop-routine.invariant c.in-Some.ensures.items in
    omega (arith, within, c.loop-routine.table.ok, ap (λ (r : RoutineParts). r.pid) c.routine.view_is)
