use Rattle.std.proofs.Common.{◌≡◌, ◌++◌, drop, map, take}
use Rattle.std.specs.List.{AllByRecursion}
use Rattle.profile.specs.Counts.{counts_of}
use Rattle.c_typed.specs.Views.{function_of}
use Rattle.c_lower.specs.Lowering.{routine_of}
use Rattle.c_module.specs.Limits.{KeepsLimits}
use Rattle.c_module.specs.Taking.{HasRoom}
use Rattle.c_module.proofs.lowering.take_routines.Given as goal

abbrev pub invariant-loop-f : goal.invariant-loop-f
invariant-loop-f g l =
    let before = map function_of (take l.f-index l.functions) in
    (g.R.RoutineTaker.taken l.taker ≡ g.R.RoutineTaker.taken l.fn.taker ++ map (routine_of l.syms (counts_of l.p)) before)
    × AllByRecursion KeepsLimits before
    × HasRoom (g.R.RoutineTaker.taken l.taker) (map function_of (drop l.f-index l.functions))
    × g.R.RoutineTaker.keeps l.fn.taker l.taker
    × g.R.RoutineTaker.ready l.taker
