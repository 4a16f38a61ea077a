-- Calls of the choice that were inlined in pools, as a step of a pass.
use Rattle.std.proofs.Common.{◌≡◌, ℕ, Bool, List, [], ◌∷◌, refl, sym, subst, arith}
use Rattle.std.specs.Prelude.{Option}
use Rattle.std.specs.List.{AllByRecursion}
use Rattle.il_core.specs.Limits.{IsWithinLimits}
use Rattle.il_core.specs.Size.{charge}
use Rattle.il_core.specs.declared.program.IlProgram.{IlProgram}
use Rattle.il_core.specs.declared.shape.ShapeRow.{ShapeRow}
use Rattle.compact_form.specs.Compact.{IsRoutine, compact}
use Rattle.compact_form.specs.declared.body.RoutineBody.{RoutineBody}
use Rattle.naim_core.specs.declared.event.Failure.{Failure}
use Rattle.naim_core.specs.declared.event.Failure.TheVariants as failure
use Rattle.naim_loader.specs.Contents.{StandsFor}
use Rattle.naim_loader.specs.Paged.{Paged}
use Rattle.plan_pools.specs.Contents.{HavePools, IsContents, routine_pids}
use Rattle.plan_pools.specs.Inlining.{IsInlinedNeed, MayInline}
use Rattle.plan_pools.specs.Noting.{GoesOn}
use Rattle.plan_pools.specs.Planning.{Holds, IsMade, IsNeed, PlanCause, StopsMaking}
use Rattle.plan_pools.specs.Stopping.{InlineCause, StillRests, StopsInlining}
use Rattle.plan_pools.proofs.Plans.{trusted_still}
use Rattle.plan_pools.proofs.Steps.{goes_stays, have_still}
use Rattle.il_laws.specs.Keeping.{with_each}
use Rattle.plan_laws.specs.ChoiceLaws.{AreCalls}
use Rattle.plan_laws.specs.Choosing.{choice}
use Rattle.plan_laws.specs.Inlining.{inlined_routine, inlined_routines}
use Rattle.plan_laws.specs.Numbers.{Choice}
use Rattle.plan_laws.specs.Summary.{summaries}
use Rattle.plan_laws.proofs.Chosen.{choice_calls}
use Rattle.plan_laws.proofs.Inlines.{routines_follow}
use Rattle.inline_steps.specs.Steps.{inlined}
use Rattle.inline_steps.proofs.Within.{chosen_whole, held_within}

abbrev Pools : Type 0 → Type 0
Pools D = Paged RoutineBody (Unit {0}) D

module _ {D : Type 0} (reach : D → ℕ) (honest : D → Bool) (faults : D → ℕ) (bytes : D → Option (List ℕ)) (rows : List ShapeRow) (main limit : ℕ)
    (cs : List Choice) (old new : Pools D)
    (stands : StandsFor (λ b. charge b.routine) (λ b. compact b.routine) (λ b. IsRoutine b.routine) bytes reach honest old)
    (known : (p : IlProgram) → Holds reach honest faults old rows main p → cs ≡ choice (summaries p) main limit) where
  -- the calls may be inlined in a program that is held
  may : (p : IlProgram) → Holds reach honest faults old rows main p → MayInline reach honest old rows cs p
  may p h =
      let same = sym (known p h) in
      let within = held_within reach honest bytes old stands p h.valid h.contents in
      record {
        trusted = h.trusted;
        valid = h.valid;
        shapes = h.shapes;
        contents = h.contents;
        calls = subst (AreCalls p.routines) same (choice_calls p h.valid main limit);
        limits = subst (λ ds. AllByRecursion IsWithinLimits (inlined_routines p.routines ds)) same (chosen_whole p h.valid within main limit);
      }

  pub inlined_made : HavePools old rows → StillRests faults old new
      → ((p : IlProgram) → MayInline reach honest old rows cs p → IsContents new (with_each p (inlined_routine p.routines cs)))
      → IsMade reach honest faults (λ p. []) (inlined main limit) rows main old new rows
  inlined_made have s held = record {
    rests = s.rests;
    pools = have_still old new (routine_pids rows) s.pools.has have;
    noted = [];
    goes = goes;
    program = λ p h. record {
      holds = record {
        trusted = trusted_still faults reach honest [] old new goes h.trusted;
        valid = (routines_follow p h.valid (choice (summaries p) main limit)).valid;
        shapes = h.shapes;
        main_is = h.main_is;
        contents = subst (λ ds. IsContents new (with_each p (inlined_routine p.routines ds))) (known p h) (held p (may p h));
      };
      notes = tt;
    };
  }
    where
      goes : GoesOn faults [] old new
      goes = goes_stays faults old new s.pools.stays s.pools.insertions

  need : (p : IlProgram) (h : Holds reach honest faults old rows main p) (q n : ℕ) → IsInlinedNeed p cs q n → IsNeed (inlined main limit p ∷ []) q n
  need p h q n w =
      let x = subst (λ ds. IsInlinedNeed p ds q n) (known p h) w in
      record { program = inlined main limit p; is_one = (0, omega arith, refl); routine = x.routine; is = x.is; size = x.size }

  inlined_cause : (before now : ℕ) (e : Failure)
      → InlineCause reach honest faults (λ q. (p : IlProgram) → MayInline reach honest old rows cs p → ⊥)
      (λ q n. (p : IlProgram) → MayInline reach honest old rows cs p → IsInlinedNeed p cs q n) old before now e
      → PlanCause reach honest faults (λ p. inlined main limit p ∷ []) rows main old before now e
  inlined_cause before now failure.Repository c = c
  inlined_cause before now (failure.Damaged place kept found) c = c
  inlined_cause before now (failure.Unreadable place) c = c
  inlined_cause before now (failure.Unfit q) c = λ p h. c p (may p h)
  inlined_cause before now (failure.TooSmall q n most) c = (c.0, c.1, λ p h. need p h q n (c.2 p (may p h)))
  inlined_cause before now failure.Memory c = tt

  pub inlined_stops : (e : Failure) → StopsInlining reach honest faults (λ q. (p : IlProgram) → MayInline reach honest old rows cs p → ⊥)
      (λ q n. (p : IlProgram) → MayInline reach honest old rows cs p → IsInlinedNeed p cs q n) old new e
      → StopsMaking reach honest faults (λ p. inlined main limit p ∷ []) rows main old new e
  inlined_stops e s = record {
    kept = s.kept;
    home = s.home;
    noted = [];
    goes = goes_stays faults old new s.pools.stays s.pools.insertions;
    cause = inlined_cause (faults old.disk) (faults new.disk) e s.cause;
  }
