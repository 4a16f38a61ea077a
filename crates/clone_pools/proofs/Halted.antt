-- A group's clone that isn't added.
use Rattle.std.proofs.Common.{◌≡◌, ◌<◌, ◌++◌, ℕ, Bool, true, false, List, [], ◌∷◌, Option, Some, length, refl, sym, ap, subst, arith, inl, inr, ◌∙◌}
use Rattle.std.specs.Prelude.{if◌then◌else◌, is_some}
use Rattle.std.specs.List.{AllByRecursion}
use Rattle.il_core.specs.Limits.{IsWithinLimits}
use Rattle.il_core.specs.Program.{routine_at}
use Rattle.il_core.specs.Routine.{RoutineParts}
use Rattle.il_core.specs.Size.{charge}
use Rattle.il_core.specs.Valid.{IsValid}
use Rattle.il_core.specs.declared.program.IlProgram.{IlProgram}
use Rattle.il_core.specs.declared.shape.ShapeRow.{ShapeRow}
use Rattle.il_core.proofs.Programs.{routine_valid}
use Rattle.il_laws.specs.Growing.{NewClone, with_copy}
use Rattle.il_laws.proofs.Grown.{found_last}
use Rattle.plan_laws.specs.Groups.{Taken}
use Rattle.plan_laws.specs.Plan.{State, add_clone, new_clone}
use Rattle.compact_form.specs.Compact.{IsRoutine, compact}
use Rattle.compact_form.specs.declared.body.RoutineBody.{RoutineBody}
use Rattle.clone_groups.specs.Grouping.{accepted}
use Rattle.clone_groups.specs.declared.groups.Group.{Group}
use Rattle.naim_core.specs.State.{empty_hand}
use Rattle.naim_core.specs.declared.event.Failure.{Failure}
use Rattle.naim_core.specs.declared.event.Failure.TheVariants as failure
use Rattle.naim_loader.specs.Calls.{Fails}
use Rattle.naim_loader.specs.Contents.{StandsFor}
use Rattle.naim_loader.specs.Paged.{Paged}
use Rattle.one_owner.specs.Alone.{IsResting}
use Rattle.one_owner.proofs.Frames.{rest_stops}
use Rattle.plan_pools.specs.Adding.{AddCause, StopsAdding, clone_from, clone_of}
use Rattle.plan_pools.specs.Cloning.{CanAdd, CanAddIf}
use Rattle.plan_pools.specs.Contents.{routine_in}
use Rattle.plan_pools.specs.Planning.{IsNeed}
use Rattle.plan_pools.specs.Stopping.{InlineCause}
use Rattle.plan_pools.specs.declared.clones.NewClone.{NewClone as CodeClone}
use Rattle.clone_pools.specs.Growing.{CloneNeeds, NoClone, StopsClone, StopsGrowing, is_fit, wanted_of, with_taken}
use Rattle.clone_pools.specs.States.{HoldsState, IsReady}
use Rattle.clone_pools.specs.declared.progress.Progress.{Progress}
use Rattle.clone_pools.proofs.Clones.{clone_is, new_is}
use Rattle.clone_pools.proofs.Room.{below, can_fit, some_routine}
use Rattle.clone_pools.proofs.Trails.{grows_stays}

abbrev Pools : Type 0 → Type 0
Pools D = Paged RoutineBody (Unit {0}) D

all_last : (P : RoutineParts → Type 0) (rs : List RoutineParts) (r : RoutineParts) → AllByRecursion P (rs ++ r ∷ []) → P r
all_last P [] r h = h.0
all_last P (z ∷ rs) r h = all_last P rs r h.1

module _ {D : Type 0} (reach : D → ℕ) (honest : D → Bool) (faults : D → ℕ) where
  -- a failure that was told while the pools rested
  pub told_stops : (unfit : ℕ → Type 0) (needs : ℕ → ℕ → Type 0) (old new : Pools D) (x : Progress) (e : Failure) → IsResting old → Fails old 0 e new
      → InlineCause reach honest faults unfit needs old (faults old.disk) (faults new.disk) e
      → StopsGrowing reach honest faults unfit needs old x new e
  told_stops unfit needs old new x e rests t cause =
      let s = rest_stops faults (λ f. Unit {0}) old new empty_hand e rests tt t in
      record { kept = s.kept; home = s.home; next_now = x.next; grows = grows_stays faults old new x.next s.keeps.stays s.keeps.insertions; cause = cause }

  module _ (bytes : D → Option (List ℕ)) (main : ℕ) (names : List ShapeRow) (old : Pools D) (x : Progress) (g : Group)
      (stands : StandsFor (λ b. charge b.routine) (λ b. compact b.routine) (λ b. IsRoutine b.routine) bytes reach honest old) (ready : IsReady old x)
      (fresh : is_some g.old ≡ false) where
    abbrev pub able : (t : Taken) (st : State) → accepted t ≡ g → CanAddIf t.is_new names t st → CanAdd names t st
    able t st same can = subst (λ b. CanAddIf b names t st) (new_is t g same fresh) can

    -- a group that doesn't fit can't be added
    pub no_clone : is_fit old x.next g ≡ false → (q : ℕ) → NoClone reach honest faults main names g old x q
    no_clone unfit q = λ t st same can h.
        let fit = can_fit reach honest faults bytes main old x stands ready st h names t g same (able t st same can) in
        let bad : false ≡ true = sym unfit ∙ fit in absurd cc

    module _ (w : CodeClone) (wanted : clone_of w ≡ wanted_of names x.made g) where
      -- what is added to a state
      module _ (t : Taken) (st : State) (same : accepted t ≡ g) (can : CanAddIf t.is_new names t st) (h : HoldsState reach honest faults main old x st) where
        abbrev pub c : NewClone
        c = new_clone names st.made t

        is : clone_of w ≡ c
        is = clone_is names x.made st t g (clone_of w) same h.made wanted

        abbrev pub callee : (r : RoutineParts) × (routine_at st.program.routines t.group.callee ≡ Some r)
        callee = some_routine (routine_at st.program.routines t.group.callee) (able t st same can).callee

        at : routine_in old w.callee ≡ Some callee.0
        at = h.holds.contents.by w.callee ∙ ap (λ (z : NewClone). routine_at st.program.routines z.callee) is ∙ callee.1

        copied : (with_copy st.program c (Some callee.0)) ≡ (add_clone names t st).program
        copied = ap (with_copy st.program c) (sym callee.1)

        clone_same : clone_from c callee.0 ≡ clone_from (clone_of w) callee.0
        clone_same = ap (λ (z : NewClone). clone_from z callee.0) (sym is)

        pub is_valid : IsValid x.shapes callee.0
        is_valid = subst (λ rows. IsValid rows callee.0) h.holds.shapes (routine_valid st.program h.holds.valid t.group.callee callee.0 callee.1)

        pub is_within : IsWithinLimits (clone_from (clone_of w) callee.0)
        is_within =
            subst IsWithinLimits clone_same
            (all_last IsWithinLimits st.program.routines (clone_from c callee.0)
            (subst (λ (p : IlProgram). AllByRecursion IsWithinLimits p.routines) (sym copied) (able t st same can).within))

        pub is_need : (q need : ℕ) → q ≡ w.pid → need ≡ length (compact (clone_from (clone_of w) callee.0))
            → IsNeed ((with_taken names t st).program ∷ []) q need
        is_need q need pid size =
            subst (λ b. IsNeed ((if b then add_clone names t st else st).program ∷ []) q need) (sym (new_is t g same fresh)) (record {
              program = (add_clone names t st).program;
              is_one = (0, omega arith, refl);
              routine = clone_from c callee.0;
              is = ap (λ (p : IlProgram). routine_at p.routines q) (sym copied)
                  ∙ ap (routine_at (st.program.routines ++ clone_from c callee.0 ∷ [])) (pid ∙ ap (λ (z : NewClone). z.pid) is)
                  ∙ found_last (λ (z : RoutineParts). z.pid) st.program.routines (clone_from c callee.0) all_below;
              size = size ∙ ap (λ z. length (compact z)) (sym clone_same);
            })
          where
            all_below : AllByRecursion (λ (z : RoutineParts). z.pid < t.clone) st.program.routines
            all_below =
                subst (λ n. AllByRecursion (λ (z : RoutineParts). z.pid < n) st.program.routines) (sym ((able t st same can).next ∙ h.next))
                (below reach honest faults bytes main old x stands ready st h)

      cause_of : (rows : List ShapeRow) → rows ≡ x.shapes → (before now : ℕ) (e : Failure) → AddCause reach honest faults rows (clone_of w) old before now e
          → InlineCause reach honest faults (NoClone reach honest faults main names g old x)
          (CloneNeeds reach honest faults main names g old x) old before now e
      cause_of rows these before now failure.Repository k = k
      cause_of rows these before now (failure.Damaged place kept found) k = k
      cause_of rows these before now (failure.Unreadable place) k = k
      cause_of rows these before now (failure.Unfit q) (inl k) = λ t st same can h.
          k.1 h.holds.trusted (callee t st same can h).0 (at t st same can h)
          (subst (λ z. IsValid z (callee t st same can h).0) (sym these) (is_valid t st same can h))
      cause_of rows these before now (failure.Unfit q) (inr k) = λ t st same can h.
          k.1 h.holds.trusted (callee t st same can h).0 (at t st same can h) (is_within t st same can h)
      cause_of rows these before now (failure.TooSmall q need limit) k = (
        k.1,
        k.2,
        λ t st same can h.
            is_need t st same can h q need k.0 (k.3 h.holds.trusted (callee t st same can h).0 (at t st same can h)),
      )
      cause_of rows these before now failure.Memory k = k

      pub add_stops : (new : Pools D) (rows : List ShapeRow) (e : Failure) → rows ≡ x.shapes → StopsAdding reach honest faults rows (clone_of w) old new e
          → StopsClone reach honest faults main names g old x new e
      add_stops new rows e these s = record {
        kept = s.kept;
        home = s.home;
        next_now = x.next;
        grows = grows_stays faults old new x.next s.reads.stays s.reads.insertions;
        cause = cause_of rows these (faults old.disk) (faults new.disk) e s.cause;
      }
