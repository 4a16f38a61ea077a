-- A program whose accepted calls were inlined wave by wave in its pools.
use Rattle.std.proofs.Common.{◌≡◌, ℕ, Bool, true, List, Option, Some, None, refl, sym, subst, ◌∙◌}
use Rattle.std.specs.Prelude.{option_map}
use Rattle.std.specs.List.{AllByRecursion}
use Rattle.std.proofs.lemmas.Option.{same_Some}
use mathlib.Core.Path.{fun_ext}
use Rattle.il_core.specs.Limits.{IsWithinLimits}
use Rattle.il_core.specs.Program.{routine_at}
use Rattle.il_core.specs.Routine.{RoutineParts}
use Rattle.il_core.specs.Size.{charge}
use Rattle.il_core.specs.declared.program.IlProgram.{IlProgram}
use Rattle.il_core.specs.declared.shape.ShapeRow.{ShapeRow}
use Rattle.il_laws.specs.Keeping.{with_each}
use Rattle.il_laws.proofs.Serving.{each_found}
use Rattle.compact_form.specs.Compact.{IsRoutine, compact}
use Rattle.compact_form.specs.declared.body.RoutineBody.{RoutineBody}
use Rattle.naim_core.specs.declared.event.Failure.{Failure}
use Rattle.naim_loader.specs.Contents.{StandsFor}
use Rattle.naim_loader.specs.Paged.{Paged, content_at, IsTrusted}
use Rattle.one_owner.proofs.Pools.{pool_there}
use Rattle.plan_pools.specs.Contents.{IsContents, routine_in}
use Rattle.plan_pools.proofs.Staying.{pools_itself}
use Rattle.plan_laws.specs.Inlining.{inlined_routine}
use Rattle.plan_laws.specs.Levels.{is_acyclic, waves}
use Rattle.plan_laws.specs.Numbers.{Choice, is_chosen}
use Rattle.plan_pools.specs.Inlining.{IsInlinedNeed, MayInline}
use Rattle.plan_pools.specs.Stopping.{Becomes, StopsInlining}
use Rattle.plan_pools.specs.Waving.{after_waves, IsWavesNeed, SuitWaves}
use Rattle.plan_pools.proofs.WavesMade.{waves_make}
use Rattle.plan_pools.proofs.Stopped.{stops_after}

module _ {D : Type 0} (reach : D → ℕ) (honest : D → Bool) (faults : D → ℕ) (bytes : D → Option (List ℕ)) (rows : List ShapeRow) (cs : List Choice)
    (acyclic : is_acyclic cs ≡ true)
    (t : ℕ → ℕ → Bool) (test : (p k : ℕ) → t p k ≡ is_chosen cs p k) (pss : List (List ℕ)) (same : pss ≡ waves cs) where
  abbrev Pools : Type 0
  Pools = Paged RoutineBody (Unit {0}) D

  -- the loader stands for its contents
  abbrev pub IsStanding : Pools → Type 0
  IsStanding l = StandsFor (λ b. charge b.routine) (λ b. compact b.routine) (λ b. IsRoutine b.routine) bytes reach honest l

  -- what pools have is within the limits
  standing_within : (l : Pools) → IsStanding l → (q : ℕ) (r : RoutineParts) → routine_in l q ≡ Some r → IsWithinLimits r
  standing_within l s q r e = by (content_at l q) refl e
    where
      by : (o : Option RoutineBody) → content_at l q ≡ o → option_map (λ b. b.routine) o ≡ Some r → IsWithinLimits r
      by None at h = let bad : None ≡ Some r = h in absurd cc
      by (Some b) at h =
          let z = pool_there (λ b. charge b.routine) (λ b. compact b.routine) (λ b. IsRoutine b.routine) bytes reach honest l q b s at in
          subst IsWithinLimits (same_Some b.routine r h) z.2.value.limits

  -- and so is a program that lies in them
  held_within : (l : Pools) (p : IlProgram) → MayInline reach honest l rows cs p
      → ((q : ℕ) (r : RoutineParts) → routine_in l q ≡ Some r → IsWithinLimits r) → AllByRecursion IsWithinLimits p.routines
  held_within l p h within =
      each_found (λ r. r.pid) IsWithinLimits p.routines h.valid.routines (λ q r e. within q r (h.contents.by q ∙ e))

  -- what waves do to routines that stand at PIDs
  record Made (p : IlProgram) (rs : List ShapeRow) (f : ℕ → ℕ → Bool) (ws : List (List ℕ)) (at : ℕ → Option RoutineParts) : Type 0 where
    suits : SuitWaves rs f ws at
    ends : (q : ℕ) → after_waves f ws at q ≡ routine_at (with_each p (inlined_routine p.routines cs)).routines q
    needs : (q need : ℕ) → IsWavesNeed f ws at q need → IsInlinedNeed p cs q need

  -- so they do to the pools of such a program
  in_pools : (l : Pools) → ((q : ℕ) (r : RoutineParts) → routine_in l q ≡ Some r → IsWithinLimits r) → (p : IlProgram) → MayInline reach honest l rows cs p
      → Made p rows t pss (routine_in l)
  in_pools l within p h =
      let m = waves_make cs p h.valid h.calls acyclic (held_within l p h within) h.limits in
      let tests : is_chosen cs ≡ t = fun_ext (λ (x : ℕ). fun_ext (λ (k : ℕ). sym (test x k))) in
      let stands : routine_at p.routines ≡ routine_in l = fun_ext (λ (q : ℕ). sym (h.contents.by q)) in
      subst (λ (rs : List ShapeRow). Made p rs t pss (routine_in l)) h.shapes
      (subst (λ (f : ℕ → Option RoutineParts). Made p p.shapes t pss f) stands
      (subst (λ (ws : List (List ℕ)). Made p p.shapes t ws (routine_at p.routines)) (sym same)
      (subst (λ (f : ℕ → ℕ → Bool). Made p p.shapes f (waves cs) (routine_at p.routines)) tests
      (record { suits = m.suits; ends = m.ends; needs = m.needs }))))

  pub program_inlined : (old new : Pools) → IsStanding old
      → Becomes reach honest faults (SuitWaves rows t pss (routine_in old)) (after_waves t pss (routine_in old)) old new
      → (p : IlProgram) → MayInline reach honest old rows cs p → IsContents new (with_each p (inlined_routine p.routines cs))
  program_inlined old new s b p h =
      let m = in_pools old (standing_within old s) p h in
      record { by = λ q. b.routines h.trusted m.suits q ∙ m.ends q }

  pub program_stops : (old new : Pools) (e : Failure) → IsStanding old
      → StopsInlining reach honest faults (λ q. IsTrusted reach honest old → SuitWaves rows t pss (routine_in old) → ⊥)
      (λ q n. IsTrusted reach honest old → SuitWaves rows t pss (routine_in old) → IsWavesNeed t pss (routine_in old) q n) old new e
      → StopsInlining reach honest faults (λ q. (p : IlProgram) → MayInline reach honest old rows cs p → ⊥)
      (λ q n. (p : IlProgram) → MayInline reach honest old rows cs p → IsInlinedNeed p cs q n) old new e
  program_stops old new e stands s =
      stops_after reach honest faults (λ q. IsTrusted reach honest old → SuitWaves rows t pss (routine_in old) → ⊥)
      (λ q. (p : IlProgram) → MayInline reach honest old rows cs p → ⊥)
      (λ q n. IsTrusted reach honest old → SuitWaves rows t pss (routine_in old) → IsWavesNeed t pss (routine_in old) q n)
      (λ q n. (p : IlProgram) → MayInline reach honest old rows cs p → IsInlinedNeed p cs q n) old old new e (pools_itself faults old)
      (λ q no p h. no h.trusted (in_pools old (standing_within old stands) p h).suits)
      (λ q n c p h. (let m = in_pools old (standing_within old stands) p h in m.needs q n (c h.trusted m.suits))) s
