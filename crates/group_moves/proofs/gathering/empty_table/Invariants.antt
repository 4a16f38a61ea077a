use Rattle.std.proofs.Common.{[]}
use Rattle.group_moves.specs.Gathering.{IsTable}
use Rattle.group_moves.proofs.gathering.empty_table.Given as goal

abbrev pub invariant-loop-caller : goal.invariant-loop-caller
invariant-loop-caller l = IsTable l.caller (λ q. []) l.table.items
