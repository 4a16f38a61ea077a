-- Routines whose calls go elsewhere.
use Rattle.std.specs.Prelude.{ℕ, ◌<◌, List, [], ◌∷◌, if◌then◌else◌, map, nat_eq}
use Rattle.std.specs.List.{AllByRecursion}
use Rattle.il_core.specs.Limits.{max_pids}
use Rattle.il_core.specs.Routine.{RoutineParts}
use Rattle.il_laws.specs.Retarget.{SiteMove, retarget}
use Rattle.clone_groups.specs.Moves.{moves_of}
use Rattle.plan_pools.specs.declared.moves.CallerMoves.{CallerMoves}

-- the callers
abbrev pub callers_of : List CallerMoves → List ℕ
callers_of ms = map (λ m. m.caller) ms

-- the moves of a caller, which has none where it isn't among these
abbrev pub moves_for : List CallerMoves → ℕ → List SiteMove
moves_for [] p = []
moves_for (m ∷ ms) p = if nat_eq m.caller p then moves_of m.moves else moves_for ms p

-- a routine with its moves made
abbrev pub moved : List CallerMoves → RoutineParts → RoutineParts
moved ms r = retarget r (moves_for ms r.pid)

-- each goes to a PID
abbrev pub AreMoves : List CallerMoves → Type 0
AreMoves ms = AllByRecursion (λ m. AllByRecursion (λ x. x.1 < max_pids) m.moves) ms
