-- The moves of groups, by caller.
use Rattle.std.specs.Prelude.{◌≡◌, ◌<◌, ◌++◌, ℕ, Bool, true, false, List, [], ◌∷◌, length, nat_eq, slice_index_or, if◌then◌else◌}
use Rattle.std.specs.List.{AllByRecursion}
use Rattle.il_core.specs.Limits.{max_pids}
use Rattle.clone_groups.specs.declared.groups.Group.{Group}
use Rattle.plan_pools.specs.declared.moves.CallerMoves.{CallerMoves}

-- the moves of the caller q to a clone, among members of its group
abbrev pub moves_to : ℕ → ℕ → List (ℕ × ℕ) → List (ℕ × ℕ)
moves_to q clone [] = []
moves_to q clone (m ∷ ms) = if nat_eq m.0 q then (m.1, clone) ∷ moves_to q clone ms else moves_to q clone ms

-- its moves by all groups
abbrev pub all_moves : ℕ → List Group → List (ℕ × ℕ)
all_moves q [] = []
all_moves q (g ∷ gs) = moves_to q g.clone g.members ++ all_moves q gs

-- the members' callers are below n, and the clone is a PID
pub record IsBelow (n : ℕ) (g : Group) : Type 0 where
  pub callers : AllByRecursion (λ m. m.0 < n) g.members
  pub clone : g.clone < max_pids

-- a table of n callers, each in the place of its PID, with these moves
pub record IsTable (n : ℕ) (moves : ℕ → List (ℕ × ℕ)) (table : List CallerMoves) : Type 0 where
  pub long : length table ≡ n
  pub has : (i : ℕ) (d : CallerMoves) → i < n → slice_index_or table i d ≡ record { caller = i; moves = moves i }

abbrev pub some_moves : List (ℕ × ℕ) → Bool
some_moves [] = false
some_moves (m ∷ ms) = true

abbrev pub has_moves : CallerMoves → Bool
has_moves x = some_moves x.moves
