use Rattle.std.proofs.Common.{◌≡◌, drop}
use Rattle.c_lower.specs.Statements.{default_in}
use Rattle.c_lower.proofs.switches.default_in.Given as goal

abbrev pub invariant-loop-l : goal.invariant-loop-l
invariant-loop-l l = default_in (drop l.l-index l.labels) l.label ≡ default_in l.labels l.at
