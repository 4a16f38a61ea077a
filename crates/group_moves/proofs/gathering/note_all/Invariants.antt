use Rattle.std.proofs.Common.{◌≡◌, ◌++◌, ℕ, List, length, take}
use Rattle.group_moves.specs.Gathering.{IsTable, all_moves}
use Rattle.group_moves.proofs.gathering.note_all.Given as goal

abbrev pub invariant-loop-group : goal.invariant-loop-group
invariant-loop-group l = record {
  long : length l.table ≡ length l.fn.table;
  moves : (had : ℕ → List (ℕ × ℕ)) → IsTable (length l.fn.table) had l.fn.table
      → IsTable (length l.fn.table) (λ q. had q ++ all_moves q (take l.group-index l.groups)) l.table;
}
