-- Pools that stop where what the plan knows isn't fit for a choice, or memory is wanting.
use Rattle.std.proofs.Common.{◌≡◌, ℕ, Bool, true, false, List, [], Result, Ok, Err, sym, ap, ◌∙◌}
use Rattle.std.specs.Prelude.{Option, IfErr}
use Rattle.il_core.specs.Size.{charge}
use Rattle.il_core.specs.Valid.{IsProgram}
use Rattle.il_core.specs.declared.program.IlProgram.{IlProgram}
use Rattle.il_core.specs.declared.shape.ShapeRow.{ShapeRow}
use Rattle.compact_form.specs.Compact.{IsRoutine, compact}
use Rattle.compact_form.specs.declared.body.RoutineBody.{RoutineBody}
use Rattle.naim_core.specs.State.{empty_hand}
use Rattle.naim_core.specs.declared.event.Failure.{Failure}
use Rattle.naim_core.specs.declared.event.Failure.TheVariants as failure
use Rattle.naim_loader.specs.Calls.{Fails}
use Rattle.naim_loader.specs.Contents.{StandsFor}
use Rattle.naim_loader.specs.Paged.{Paged, IsTrusted}
use Rattle.one_owner.specs.Alone.{IsResting}
use Rattle.one_owner.proofs.Frames.{rest_stops}
use Rattle.plan_pools.specs.Contents.{HavePools, IsContents}
use Rattle.plan_pools.specs.Planning.{Holds, PlanCause, StopsMaking}
use Rattle.plan_pools.specs.Printing.{Rests}
use Rattle.plan_pools.proofs.Plans.{stops_on}
use Rattle.plan_pools.proofs.Steps.{before_seen, goes_stays, seen_made}
use Rattle.plan_laws.specs.Summary.{Summary, summaries}
use Rattle.inline_steps.specs.Linking.{are_usable}
use Rattle.inline_steps.specs.Steps.{CheckCause}
use Rattle.inline_steps.proofs.Usable.{program_usable}
use Rattle.inline_steps.proofs.Within.{held_within}

abbrev Pools : Type 0 → Type 0
Pools D = Paged RoutineBody (Unit {0}) D

-- two things that hold of an error hold together
pub err_both : {X E : Type 0} (P Q : E → Type 0) (r : Result X E) → IfErr r P → IfErr r Q → IfErr r (λ e. P e × Q e)
err_both P Q (Ok x) h k = tt
err_both P Q (Err e) h k = (h, k)

module _ {D : Type 0} (reach : D → ℕ) (honest : D → Bool) (faults : D → ℕ) (rows : List ShapeRow) (main : ℕ) where
  -- a failure that was told while the pools rested
  pub failed_stops : (programs : IlProgram → List IlProgram) (l new : Pools D) (e : Failure) → IsResting l → Fails l 0 e new
      → PlanCause reach honest faults programs rows main l (faults l.disk) (faults new.disk) e
      → StopsMaking reach honest faults programs rows main l new e
  failed_stops programs l new e rests t cause =
      let s = rest_stops faults (λ f. Unit {0}) l new empty_hand e rests tt t in
      record { kept = s.kept; home = s.home; noted = []; goes = goes_stays faults l new s.keeps.stays s.keeps.insertions; cause = cause }

  module _ (bytes : D → Option (List ℕ)) (old mid : Pools D) (ss : List Summary)
      (stands : StandsFor (λ b. charge b.routine) (λ b. compact b.routine) (λ b. IsRoutine b.routine) bytes reach honest old)
      (rests : Rests reach honest faults old mid)
      (known : (p : IlProgram) → IsTrusted reach honest old → IsProgram p → p.shapes ≡ rows → IsContents old p → ss ≡ summaries p) where
    -- what is known of a program that is held may be asked for its choice
    unusable : are_usable ss ≡ false → (p : IlProgram) → Holds reach honest faults mid rows main p → ⊥
    unusable unfit p h =
        let b = before_seen reach honest faults rows main old mid rests p h in
        let same = known p b.trusted b.valid b.shapes b.contents in
        let fit = program_usable p b.valid (held_within reach honest bytes old stands p b.valid b.contents) in
        let bad : false ≡ true = sym unfit ∙ ap are_usable same ∙ fit in absurd cc

    check_cause : (before now : ℕ) (e : Failure) → CheckCause ss e → PlanCause reach honest faults (λ p. []) rows main mid before now e
    check_cause before now failure.Repository c = absurd c
    check_cause before now (failure.Damaged place kept found) c = absurd c
    check_cause before now (failure.Unreadable place) c = absurd c
    check_cause before now (failure.Unfit q) c = unusable c
    check_cause before now (failure.TooSmall q need limit) c = absurd c
    check_cause before now failure.Memory c = tt

    pub check_stops : (new : Pools D) (e : Failure) → HavePools old rows → Fails mid 0 e new → CheckCause ss e
        → StopsMaking reach honest faults (λ p. []) rows main old new e
    check_stops new e have t c =
        stops_on reach honest faults rows main (λ p. []) (λ p. p) old mid rows (seen_made reach honest faults rows main old mid have rests)
        (λ p. []) new e (failed_stops (λ p. []) mid new e rests.rests t (check_cause (faults mid.disk) (faults new.disk) e c))
