use Rattle.std.proofs.Common.{◌≡◌, map, take}
use Rattle.std.specs.Prelude.{reverse}
use Rattle.clone_groups.specs.Ranking.{clone_for}
use Rattle.clone_groups.proofs.ranking.note_clones.Given as goal

abbrev pub invariant-loop-row : goal.invariant-loop-row
invariant-loop-row l = l.clones ≡ map (clone_for (reverse (take l.row-index l.rows))) l.groups.entries
