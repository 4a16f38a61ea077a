use Rattle.std.proofs.Common.{drop, map}
use Rattle.plan_pools.specs.Accepting.{is_accepted}
use Rattle.plan_pools.proofs.Waves.{Waved}
use Rattle.plan_pools.proofs.waving.inline_waves.Given as goal

abbrev pub invariant-loop-wave : goal.invariant-loop-wave
invariant-loop-wave g l =
    Waved g.D.Disk.reach g.D.Disk.honest g.D.Disk.faults l.shapes (is_accepted l.accepted) (map (λ w. w.items) l.waves) l.fn.loader l.loader
    (map (λ w. w.items) (drop l.wave-index l.waves))
