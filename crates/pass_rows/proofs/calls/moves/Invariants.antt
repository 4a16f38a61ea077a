use Rattle.std.proofs.Common.{◌<◌}
use Rattle.std.specs.List.{AllByRecursion}
use Rattle.il_core.specs.Limits.{max_pids}
use Rattle.pass_rows.proofs.calls.moves.Given as goal

abbrev pub invariant-loop-pair : goal.invariant-loop-pair
invariant-loop-pair l = AllByRecursion (λ m. m.1 < max_pids) l.moves.items
