use Rattle.std.proofs.Common.{◌≤◌}
use Rattle.paging_rows.proofs.script.compare.Given as goal

abbrev pub invariant-loop-pid : goal.invariant-loop-pid
invariant-loop-pid g l = l.used ≤ l.pid
