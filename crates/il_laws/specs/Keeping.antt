-- What it means that a program may stand in place of another.
use Rattle.std.specs.Prelude.{◌≡◌, ℕ, List, Some, map, nat_eq, if◌then◌else◌}
use Rattle.il_core.specs.declared.program.IlProgram.{IlProgram}
use Rattle.il_core.specs.Routine.{RoutineParts}
use Rattle.il_core.specs.Program.{routine_at}
use Rattle.il_core.specs.Valid.{IsProgram}
use Rattle.il_core.specs.World.{World}
use Rattle.il_core.specs.Meaning.{act}

-- a routine of this PID stands in the program
pub record Stands (p : IlProgram) (pid : ℕ) : Type 0 where
  pub routine : RoutineParts
  pub is : routine_at p.routines pid ≡ Some routine

-- each routine that stands before and after does the same, for all arguments and from every world
pub record KeepsAct (p p1 : IlProgram) : Type 0 where
  pub by : (pid : ℕ) → Stands p pid → Stands p1 pid
      → (args : List ℕ) (w : World (Unit {0})) → act p pid args w ≡ act p1 pid args w

-- a valid program that keeps what each routine does
pub record MayFollow (p p1 : IlProgram) : Type 0 where
  pub act : KeepsAct p p1
  pub valid : IsProgram p1

-- each routine is replaced
abbrev pub with_each : IlProgram → (RoutineParts → RoutineParts) → IlProgram
with_each p f = record p { routines = map f p.routines }

-- the routine with the same PID is replaced
abbrev pub with_routine : IlProgram → RoutineParts → IlProgram
with_routine p r1 = with_each p (λ r. if nat_eq r.pid r1.pid then r1 else r)
