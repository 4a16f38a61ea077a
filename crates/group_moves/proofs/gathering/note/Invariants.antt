use Rattle.std.proofs.Common.{◌≡◌, ◌++◌, ℕ, List, length, take}
use Rattle.group_moves.specs.Gathering.{IsTable, moves_to}
use Rattle.group_moves.proofs.gathering.note.Given as goal

abbrev pub invariant-loop-caller : goal.invariant-loop-caller
invariant-loop-caller l = record {
  long : length l.table ≡ length l.fn.table;
  moves : (had : ℕ → List (ℕ × ℕ)) → IsTable (length l.fn.table) had l.fn.table
      → IsTable (length l.fn.table) (λ q. had q ++ moves_to q l.clone (take l.caller-index l.members)) l.table;
}
