-- The laws of pruned programs.
use Rattle.std.specs.Prelude.{◌≡◌, ℕ, true, List, Some}
use Rattle.il_core.specs.declared.program.IlProgram.{IlProgram}
use Rattle.il_core.specs.Program.{routine_at, main_pid}
use Rattle.il_core.specs.Routine.{RoutineParts}
use Rattle.il_core.specs.Valid.{IsProgram}
use Rattle.il_core.specs.Meaning.{il_run}
use Rattle.il_laws.specs.Keeping.{MayFollow}
use Rattle.il_laws.specs.Reach.{is_live, pruned}
use Rattle.il_laws.specs.Runs.{BlocksCallIn}

-- A reached routine calls reached routines alone, and `main` is reached.
pub record IsClosed (p : IlProgram) : Type 0 where
  pub main : is_live p (main_pid p.shapes) ≡ true
  pub calls : (x : ℕ) (r : RoutineParts) → is_live p x ≡ true → routine_at p.routines x ≡ Some r → BlocksCallIn (λ q. is_live p q ≡ true) r.blocks

abbrev pub ReachCloses : Type 0
ReachCloses = (p : IlProgram) → IsClosed p

-- A program without the routines that `main` doesn't reach: it follows, what is reached stands as it was and nothing else
-- stands, `main` has its PID, and every run is the same.
pub record IsPruned (p p1 : IlProgram) : Type 0 where
  pub follows : MayFollow p p1
  pub stand : (x : ℕ) (r : RoutineParts) → is_live p x ≡ true → routine_at p.routines x ≡ Some r → routine_at p1.routines x ≡ Some r
  pub stood : (x : ℕ) (r : RoutineParts) → routine_at p1.routines x ≡ Some r → (is_live p x ≡ true) × (routine_at p.routines x ≡ Some r)
  pub main : main_pid p1.shapes ≡ main_pid p.shapes
  pub run : (input : List ℕ) (turns : ℕ) → il_run p1 input turns ≡ il_run p input turns

abbrev pub PrunedFollows : Type 0
PrunedFollows = (p : IlProgram) → IsProgram p → IsPruned p (pruned p)
