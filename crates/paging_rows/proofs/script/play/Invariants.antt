use Rattle.std.proofs.Common.{◌<◌}
use Rattle.paging_rows.specs.Pairs.{Stands}
use Rattle.paging_rows.proofs.script.play.Given as goal

abbrev pub invariant-loop : goal.invariant-loop
invariant-loop g l = record { stands : Stands l.pools 0 l.held.first l.held.second; small : l.seed < 65537 }
