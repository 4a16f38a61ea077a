use Rattle.std.proofs.Common.{◌-◌, length}
use Rattle.cleanup.proofs.Spreading.{Spread}
use Rattle.cleanup.proofs.reach.reach.Given as goal

abbrev pub invariant-spread : goal.invariant-spread
invariant-spread l = Spread l.blocks l.next l.marks.items l.found.items

abbrev pub decreases-spread : goal.decreases-spread
decreases-spread l = length l.blocks - l.next
