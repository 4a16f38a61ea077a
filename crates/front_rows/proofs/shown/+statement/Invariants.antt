use Rattle.std.proofs.Common.{◌+◌, ◌*◌}
use Rattle.front_rows.proofs.shown.+statement.Given as goal

abbrev pub decreases-statement : goal.decreases-statement
decreases-statement l = l.depth * 4 + 0

abbrev pub decreases-guarded : goal.decreases-guarded
decreases-guarded l = l.depth * 4 + 1

abbrev pub decreases-block : goal.decreases-block
decreases-block l = l.depth * 4 + 1
