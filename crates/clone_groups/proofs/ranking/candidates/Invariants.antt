use Rattle.clone_groups.proofs.Ranked.{Pairing}
use Rattle.clone_groups.proofs.ranking.candidates.Given as goal

abbrev pub invariant-loop-key : goal.invariant-loop-key
invariant-loop-key l = Pairing l.table l.fn.groups.entries l.key-iterator l.clones.items l.at l.candidates.items
