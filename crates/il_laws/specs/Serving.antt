-- A routine that may stand in another's place.
use Rattle.std.specs.Prelude.{◌≡◌, ℕ, List}
use Rattle.il_core.specs.declared.program.IlProgram.{IlProgram}
use Rattle.il_core.specs.Routine.{RoutineParts}
use Rattle.il_core.specs.Valid.{IsValid}
use Rattle.il_core.specs.World.{World}
use Rattle.il_core.specs.Meaning.{frame_of, lengths}
use Rattle.il_laws.specs.Runs.{run, called}

-- It is called alike, it is valid, and it does the same for all arguments and from every world, under the calls of the
-- program as it is.
pub record Serves (p : IlProgram) (r r1 : RoutineParts) : Type 0 where
  pub pid : r1.pid ≡ r.pid
  pub params : r1.params ≡ r.params
  pub value : r1.value ≡ r.value
  pub valid : IsValid p.shapes r1
  pub same : (args : List ℕ) (w : World (Unit {0}))
      → run (called p) (lengths p r) r.blocks 0 (frame_of r.params args) w
      ≡ run (called p) (lengths p r1) r1.blocks 0 (frame_of r.params args) w
