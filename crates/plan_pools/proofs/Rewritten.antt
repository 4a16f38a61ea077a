-- Pools whose routines' calls go elsewhere.
use Rattle.std.proofs.Common.{◌≡◌, ℕ, Bool, true, false, List, [], ◌∷◌, Option, Some, None, refl, sym, ap, subst, ◌∙◌}
use Rattle.std.specs.Prelude.{option_map, if◌then◌else◌}
use Rattle.std.specs.List.{AllByRecursion}
use Rattle.il_core.specs.Program.{routine_at}
use Rattle.il_core.specs.Routine.{RoutineParts}
use Rattle.il_core.specs.declared.program.IlProgram.{IlProgram}
use Rattle.il_core.specs.declared.shape.ShapeRow.{ShapeRow}
use Rattle.il_core.proofs.Found.{found_number}
use Rattle.il_laws.specs.Keeping.{with_each}
use Rattle.il_laws.specs.Reach.{is_in}
use Rattle.il_laws.specs.Retarget.{retarget}
use Rattle.compact_form.specs.declared.body.RoutineBody.{RoutineBody}
use Rattle.naim_core.specs.declared.event.Failure.{Failure}
use Rattle.naim_loader.specs.Calls.{Fails}
use Rattle.naim_loader.specs.Paged.{Paged, IsTrusted}
use Rattle.one_owner.specs.Alone.{IsWriting, writing}
use Rattle.one_owner.specs.Going.{Stops}
use Rattle.one_owner.proofs.Frames.{rest_stops}
use Rattle.plan_pools.specs.Contents.{IsContents, routine_in}
use Rattle.plan_pools.specs.Passes.{ChangesAll}
use Rattle.plan_pools.specs.Rewriting.{RewriteCause}
use Rattle.plan_pools.proofs.Held.{found_changed}
use Rattle.plan_pools.specs.Retargeting.{callers_of, moved, moves_for}
use Rattle.plan_pools.specs.declared.moves.CallerMoves.{CallerMoves}
use Rattle.plan_pools.proofs.CallersMoved.{none_for}
use Rattle.plan_pools.proofs.ZeroPass.{same_calls}

-- no changed form was made
pub unmade_stops : {D : Type 0} (faults : D → ℕ) (f : RoutineParts → RoutineParts) (rows : List ShapeRow) (old new : Paged RoutineBody (Unit {0}) D) (p : ℕ)
    (r : RoutineParts) (e found : Failure)
    → IsWriting old p → RewriteCause f rows p r old.core.limit (faults old.disk) (faults new.disk) found → e ≡ found → Fails old 0 found new
    → Stops faults (RewriteCause f rows p r old.core.limit (faults old.disk) (faults new.disk)) old new e
unmade_stops faults f rows old new p r e found w cause same t =
    let C = RewriteCause f rows p r old.core.limit (faults old.disk) (faults new.disk) in
    subst (Stops faults C old new) (sym same) (rest_stops faults C old new (writing p) found w cause t)

moved_pids : (ms : List CallerMoves) (rs : List RoutineParts) → AllByRecursion (λ r. (moved ms r).pid ≡ r.pid) rs
moved_pids ms [] = tt
moved_pids ms (r ∷ rs) = (refl, moved_pids ms rs)

-- Where the pools hold a program, they hold its routines with the calls moved once those of the callers are.
pub held_moved : {D : Type 0} (reach : D → ℕ) (honest : D → Bool) (faults : D → ℕ) (ms : List CallerMoves) (old new : Paged RoutineBody (Unit {0}) D)
    (p : IlProgram) → IsContents old p → ChangesAll reach honest faults (moved ms) (callers_of ms) old new → IsTrusted reach honest old
    → IsContents new (with_each p (moved ms))
held_moved reach honest faults ms old new p held c g =
    record { by = λ q. c.routines g q ∙ at q (is_in (callers_of ms) q) refl ∙ sym (found_changed (moved ms) p.routines q (moved_pids ms p.routines)) }
  where
    stays : (q : ℕ) → is_in (callers_of ms) q ≡ false → (o : Option RoutineParts) → routine_at p.routines q ≡ o → o ≡ option_map (moved ms) o
    stays q none None e = refl
    stays q none (Some r) e =
        let same : r.pid ≡ q = found_number (λ x. x.pid) q p.routines r e in
        ap (λ x. Some x) (sym (ap (retarget r) (ap (moves_for ms) same ∙ none_for ms q none) ∙ same_calls r))

    at : (q : ℕ) (b : Bool) → is_in (callers_of ms) q ≡ b
        → (if b then option_map (moved ms) (routine_in old q) else routine_in old q) ≡ option_map (moved ms) (routine_at p.routines q)
    at q true e = ap (option_map (moved ms)) (held.by q)
    at q false e = held.by q ∙ stays q e (routine_at p.routines q) refl
