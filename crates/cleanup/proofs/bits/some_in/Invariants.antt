use Rattle.std.proofs.Common.{◌≡◌, ◌+◌, ◌-◌}
use Rattle.il_laws.specs.Live.{some_live}
use Rattle.cleanup.specs.Bits.{has}
use Rattle.cleanup.proofs.bits.some_in.Given as goal

abbrev pub invariant-loop-i : goal.invariant-loop-i
invariant-loop-i l = some_live (has l.set) l.first l.count ≡ some_live (has l.set) (l.first + l.i) (l.count - l.i)
