-- The laws of a body that lies in a pool, for routines.
use Rattle.std.specs.Prelude.{◌≡◌, ◌^◌, ◌≤◌, length}
use Rattle.il_core.specs.Routine.{RoutineParts}
use Rattle.il_core.specs.Size.{charge}
use Rattle.compact_form.specs.Compact.{compact, IsRoutine}
use Rattle.compact_form.specs.Bounds.{bounded}
use Rattle.compact_form.specs.Routines.{one_form}

-- no two routines have one form
pub one_routine : (q r : RoutineParts) → IsRoutine q → IsRoutine r → compact q ≡ compact r → q ≡ r
one_routine q r h g e = one_form q r h g e

-- a form has a byte, and at most as many as the routine is charged with
pub within_charge : (r : RoutineParts) → IsRoutine r → (1 ≤ length (compact r)) × (length (compact r) ≤ charge r) × (charge r ≤ 2 ^ 40)
within_charge r h = bounded r h
