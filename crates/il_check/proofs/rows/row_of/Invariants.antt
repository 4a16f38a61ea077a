use Rattle.std.proofs.Common.{◌-◌}
use Rattle.il_check.proofs.RisingRows.{IsBetween}
use Rattle.il_check.proofs.rows.row_of.Given as goal

abbrev pub invariant-loop-low : goal.invariant-loop-low
invariant-loop-low l = IsBetween l.low l.high l.pid l.rows

abbrev pub decreases-loop-low : goal.decreases-loop-low
decreases-loop-low l = l.high - l.low
