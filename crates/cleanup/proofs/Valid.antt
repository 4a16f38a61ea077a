-- A valid routine stays valid under each change.
use Rattle.std.proofs.Common.{◌≡◌, List, [], subst, sym}
use Rattle.il_core.specs.declared.program.IlProgram.{IlProgram}
use Rattle.il_core.specs.declared.shape.ShapeRow.{ShapeRow}
use Rattle.il_core.specs.Routine.{RoutineParts}
use Rattle.il_core.specs.Valid.{IsValid}
use Rattle.il_laws.specs.Live.{drop_dead_writes}
use Rattle.il_laws.specs.Propagate.{propagate, fold_branches}
use Rattle.il_laws.specs.Serving.{Serves}
use Rattle.il_laws.specs.Simplify.{one_round}
use Rattle.il_laws.specs.Unreachable.{drop_unreachable}
use Rattle.il_laws.proofs.DeadWrites.{dead_serves}
use Rattle.il_laws.proofs.Propagated.{propagate_serves, fold_serves}
use Rattle.il_laws.proofs.Simplified.{round_serves}
use Rattle.il_laws.proofs.Unreached.{unreachable_serves}
use Rattle.const_prop.specs.Tables.{IsValidRoutine}

-- a program that has these shapes
with_rows : List ShapeRow → IlProgram
with_rows rows = record { shapes = rows; objects = []; routines = [] }

stays : (change : RoutineParts → RoutineParts) → ((p : IlProgram) (r : RoutineParts) → IsValid p.shapes r → Serves p r (change r))
    → (r q : RoutineParts) → IsValidRoutine r → q ≡ change r → IsValidRoutine q
unfolding with_rows
stays change serves r q h is = subst IsValidRoutine (sym is) (h.0, (serves (with_rows h.0) r h.1).valid)

pub constants_valid : (r q : RoutineParts) → IsValidRoutine r → q ≡ propagate r → IsValidRoutine q
constants_valid = stays propagate propagate_serves

pub folded_valid : (r q : RoutineParts) → IsValidRoutine r → q ≡ fold_branches r → IsValidRoutine q
folded_valid = stays fold_branches fold_serves

pub reached_valid : (r q : RoutineParts) → IsValidRoutine r → q ≡ drop_unreachable r → IsValidRoutine q
reached_valid = stays drop_unreachable unreachable_serves

pub thinned_valid : (r q : RoutineParts) → IsValidRoutine r → q ≡ drop_dead_writes r → IsValidRoutine q
thinned_valid = stays drop_dead_writes dead_serves

pub round_valid : (r q : RoutineParts) → IsValidRoutine r → q ≡ one_round r → IsValidRoutine q
round_valid = stays one_round round_serves
