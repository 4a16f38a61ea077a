use Rattle.std.proofs.Common.{◌≡◌, drop}
use Rattle.std.specs.List.{list_any}
use Rattle.pass_laws.specs.Worth.{has_dollar}
use Rattle.plan_driver.proofs.names.has_dollars.Given as goal

abbrev pub invariant-loop-row : goal.invariant-loop-row
invariant-loop-row l = list_any has_dollar (drop l.row-index l.rows) ≡ list_any has_dollar l.rows
