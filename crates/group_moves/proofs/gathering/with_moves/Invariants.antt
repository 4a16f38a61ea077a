use Rattle.std.proofs.Common.{◌≡◌}
use Rattle.std.specs.Prelude.{filter}
use Rattle.group_moves.specs.Gathering.{has_moves}
use Rattle.group_moves.proofs.gathering.with_moves.Given as goal

abbrev pub invariant-loop-caller : goal.invariant-loop-caller
invariant-loop-caller l = l.callers.items ≡ filter has_moves l.yielded
