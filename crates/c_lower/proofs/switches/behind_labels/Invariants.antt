use Rattle.std.proofs.Common.{◌≡◌, drop}
use Rattle.c_lower.specs.Statements.{labels_at}
use Rattle.c_lower.proofs.switches.behind_labels.Given as goal

abbrev pub invariant-loop-l : goal.invariant-loop-l
invariant-loop-l l = labels_at (drop l.l-index l.labels) l.label ≡ labels_at l.labels l.at
