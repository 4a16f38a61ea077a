-- Each change of one routine, and all of `simplify`, makes a routine that serves.
use Rattle.il_core.specs.declared.program.IlProgram.{IlProgram}
use Rattle.il_core.specs.Routine.{RoutineParts}
use Rattle.il_core.specs.Valid.{IsValid}
use Rattle.il_laws.specs.Propagate.{propagate, fold_branches}
use Rattle.il_laws.specs.Unreachable.{drop_unreachable}
use Rattle.il_laws.specs.Live.{drop_dead_writes}
use Rattle.il_laws.specs.Merge.{merge_blocks}
use Rattle.il_laws.specs.Simplify.{one_round, simplify}
use Rattle.il_laws.specs.Serving.{Serves}
use Rattle.il_laws.specs.SimplifyLaws.{MayChangeOne, MayChangeAll}
use Rattle.il_laws.proofs.Programs.{routine_valid}
use Rattle.il_laws.proofs.Serving.{serves_then, routine_follows, each_follows}
use Rattle.il_laws.proofs.Propagated.{propagate_serves, fold_serves}
use Rattle.il_laws.proofs.Unreached.{unreachable_serves}
use Rattle.il_laws.proofs.DeadWrites.{dead_serves}
use Rattle.il_laws.proofs.Merging.{merge_serves}

pub round_serves : (p : IlProgram) (r : RoutineParts) → IsValid p.shapes r → Serves p r (one_round r)
round_serves p r valid =
    let r1 = propagate r in
    let r2 = fold_branches r1 in
    let r3 = drop_unreachable r2 in
    let r4 = drop_dead_writes r3 in
    let s1 = propagate_serves p r valid in
    let s2 = serves_then p r r1 r2 s1 (fold_serves p r1 s1.valid) in
    let s3 = serves_then p r r2 r3 s2 (unreachable_serves p r2 s2.valid) in
    let s4 = serves_then p r r3 r4 s3 (dead_serves p r3 s3.valid) in
    serves_then p r r4 (merge_blocks r4) s4 (merge_serves p r4 s4.valid)

pub simplify_serves : (p : IlProgram) (r : RoutineParts) → IsValid p.shapes r → Serves p r (simplify r)
simplify_serves p r valid =
    let r1 = one_round r in
    let r2 = one_round r1 in
    let r3 = one_round r2 in
    let s1 = round_serves p r valid in
    let s2 = serves_then p r r1 r2 s1 (round_serves p r1 s1.valid) in
    let s3 = serves_then p r r2 r3 s2 (round_serves p r2 s2.valid) in
    serves_then p r r3 (simplify r) s3 (round_serves p r3 s3.valid)

-- a change whose result serves may be made, in one routine or in all
pub change_one : (change : RoutineParts → RoutineParts) → ((p : IlProgram) (r : RoutineParts) → IsValid p.shapes r → Serves p r (change r))
    → MayChangeOne change
change_one change serves p valid x r e = routine_follows p valid x r (change r) e (serves p r (routine_valid p valid x r e))

pub change_all : (change : RoutineParts → RoutineParts) → ((p : IlProgram) (r : RoutineParts) → IsValid p.shapes r → Serves p r (change r))
    → MayChangeAll change
change_all change serves p valid = each_follows p valid change (λ x r e. serves p r (routine_valid p valid x r e))
