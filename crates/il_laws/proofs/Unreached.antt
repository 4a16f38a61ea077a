-- Leaving out blocks that aren't reachable makes a routine that serves.
use Rattle.il_core.specs.declared.program.IlProgram.{IlProgram}
use Rattle.il_core.specs.Routine.{RoutineParts}
use Rattle.il_core.specs.Valid.{IsValid}
use Rattle.il_core.specs.Meaning.{frame_of, lengths}
use Rattle.il_laws.specs.Renumber.{renumbered}
use Rattle.il_laws.specs.Unreachable.{reachable, drop_unreachable}
use Rattle.il_laws.specs.Runs.{called}
use Rattle.il_laws.specs.Serving.{Serves}
use Rattle.il_laws.proofs.Alike.{anything, calls_fall}
use Rattle.il_laws.proofs.Sound.{valid_sound}
use Rattle.il_laws.proofs.ValidBlocks.{serves_blocks}
use Rattle.il_laws.proofs.Renumbered.{renumbered_keeps}
use Rattle.il_laws.proofs.RenumberedValid.{renumbered_valid}
use Rattle.il_laws.proofs.Reached.{reachable_closed}

pub unreachable_serves : (p : IlProgram) (r : RoutineParts) → IsValid p.shapes r → Serves p r (drop_unreachable r)
unreachable_serves p r valid =
    let ms = reachable r.blocks in
    let sound = valid_sound p.shapes r valid in
    let closed = reachable_closed r.blocks sound in
    let valid1 = renumbered_valid p.shapes ms r valid closed in
    serves_blocks p r (renumbered ms r.blocks) valid1 (λ args w.
    renumbered_keeps ms r.blocks sound closed (valid_sound p.shapes (drop_unreachable r) valid1) (called p) (calls_fall p anything) (lengths p r)
    (frame_of r.params args) w)
