use Rattle.std.proofs.Common.{◌≡◌, map, take}
use Rattle.std.specs.Prelude.{replicate}
use Rattle.il_core.specs.Routine.{RoutineParts}
use Rattle.il_run.specs.Counts.{sites_of_blocks}
use Rattle.il_run.proofs.counts.no_sites.Given as goal

abbrev pub invariant-loop-routine : goal.invariant-loop-routine
invariant-loop-routine l = l.sites.items ≡ map (λ (r : RoutineParts). replicate (sites_of_blocks r.blocks) 0) (take l.routine-index l.routines)
